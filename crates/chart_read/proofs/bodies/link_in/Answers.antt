-- `chart_read::bodies::link_in` meets its contract: two addresses and two bytes, the second of which may be past the end.
use native.Mathlib.Omega.{arith}
use Rattle.chart_read.specs.Fields.{link_in}
use Rattle.chart_read.proofs.Laws.{address-within}
use Rattle.chart_read.proofs.bodies.link_in.Goals as goal

pub returns : goal.returns
unfolding link_in
returns c =
    let b = c.args.b.now in
    rw (c.address_in.ensures, address-within 8 b 0 (omega arith), c.address_in-2.ensures, address-within 8 b 4 (omega arith), c.byte_at.ensures)
