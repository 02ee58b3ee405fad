-- `chart_image::nodes_held` meets its contract: one node more is in the row.
use mathlib.Core.Path.{sym}
use native.Mathlib.Omega.{arith}
use Rattle.lists.proofs.Places.{row-none, row_next}
use Rattle.chart.specs.Values.{no_node}
use Rattle.chart_image.specs.Image.{node_held}
use Rattle.chart_image.proofs.taking.nodes_held.Goals as goal

pub loop-i-init : goal.loop-i-init
loop-i-init c = rw c.no_node-items.ensures (sym (row-none 16 no_node (node_held c.args.b.now)))

pub loop-i-preserved : goal.loop-i-preserved
loop-i-preserved c =
    let l = c.loop-i in
    rw (c.node_held.ensures, l.invariant) (row_next 16 no_node (node_held c.args.b.now) l.i (omega arith))
