-- The nodes before i are stored.
use mathlib.Core.Path.{◌≡◌}
use lib.Seq.{sets}
use Rattle.lists.specs.Places.{joined}
use Rattle.chart.specs.Values.{node_at}
use Rattle.chart_image.specs.Image.{nodes_start, node_image}
use Rattle.chart_image.proofs.putting.put_nodes.Given as goal

abbrev pub invariant-loop-i : goal.invariant-loop-i
invariant-loop-i l = l.image ≡ sets l.initial.image nodes_start (joined node_image (node_at l.fn.nodes) l.i)
