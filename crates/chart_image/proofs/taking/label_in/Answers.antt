-- `chart_image::label_in` meets its contract: one byte more is in the row.
use mathlib.Core.Path.{◌≡◌, sym, ap, ◌∙◌}
use native.Mathlib.Omega.{arith}
use Rattle.lists.specs.Places.{row}
use Rattle.lists.proofs.Places.{row-none, row_next}
use Rattle.chart_read.specs.Fields.{bytes_from}
use Rattle.chart_image.proofs.taking.label_in.Goals as goal

pub loop-i-init : goal.loop-i-init
loop-i-init c = sym (row-none 24 0 (bytes_from c.args.b.now c.args.at))

pub loop-i-preserved : goal.loop-i-preserved
unfolding bytes_from
loop-i-preserved c =
    let l = c.loop-i in
    let a = c.args in
    rw (c.byte_at.ensures, l.invariant) (row_next 24 0 (bytes_from a.b.now a.at) l.i (omega arith))

pub returns : goal.returns
returns c =
    let l = c.loop-i in
    let e : l.i ≡ 24 = omega arith in
    l.invariant ∙ ap (row 24 0 (bytes_from c.args.b.now c.args.at)) e
