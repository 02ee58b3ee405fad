-- The nodes before i are in the row.
use mathlib.Core.Path.{◌≡◌}
use Rattle.lists.specs.Places.{row}
use Rattle.chart.specs.Values.{no_node}
use Rattle.chart_image.specs.Image.{node_held}
use Rattle.chart_image.proofs.taking.nodes_held.Given as goal

abbrev pub invariant-loop-i : goal.invariant-loop-i
invariant-loop-i l = l.items ≡ row 16 no_node (node_held l.fn.b) l.i
