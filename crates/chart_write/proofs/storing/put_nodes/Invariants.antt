-- The nodes before the one that is looked at are stored, and at is the offset past them.
use mathlib.Core.Path.{◌≡◌}
use lib.Seq.{sets}
use Rattle.lists.specs.Places.{joined}
use Rattle.chart.specs.Values.{node_at}
use Rattle.chart_write.specs.Writing.{node_field}
use Rattle.chart_write.proofs.Laws.{Past}
use Rattle.chart_write.proofs.storing.put_nodes.Given as goal

abbrev pub invariant-loop-n : goal.invariant-loop-n
invariant-loop-n l =
    record {
      past : Past l.fn.nodes l.n-index l.at;
      stored : l.out ≡ sets l.initial.out 0 (joined node_field (node_at l.fn.nodes) l.n-index);
    }
