-- `chart_write::storing::link_field_size` meets its contract: a head and a body.
use native.Mathlib.Omega.{arith}
use Rattle.chart_read.proofs.Laws.{link-length-bounds}
use Rattle.chart_write.proofs.storing.link_field_size.Goals as goal

pub overflow_add-result : goal.overflow_add-result
overflow_add-result c = omega (arith, c.link_length.ensures, (link-length-bounds c.args.form).1)

pub returns : goal.returns
returns c = (omega (arith, c.link_length.ensures), omega (arith, c.link_length.ensures, (link-length-bounds c.args.form).1))
