-- `chart_image::links_held` meets its contract: one link more is in the row.
use mathlib.Core.Path.{sym}
use native.Mathlib.Omega.{arith}
use Rattle.lists.proofs.Places.{row-none, row_next}
use Rattle.chart.specs.Values.{no_link}
use Rattle.chart_image.specs.Image.{link_held}
use Rattle.chart_image.proofs.taking.links_held.Goals as goal

pub loop-i-init : goal.loop-i-init
loop-i-init c = rw c.no_link-items.ensures (sym (row-none 48 no_link (link_held c.args.b.now)))

pub loop-i-preserved : goal.loop-i-preserved
loop-i-preserved c =
    let l = c.loop-i in
    rw (c.link_held.ensures, l.invariant) (row_next 48 no_link (link_held c.args.b.now) l.i (omega arith))
