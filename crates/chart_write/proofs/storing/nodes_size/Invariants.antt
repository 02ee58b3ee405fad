-- The size so far is that of the nodes before the one that is looked at.
use Rattle.chart_write.proofs.Laws.{Past}
use Rattle.chart_write.proofs.storing.nodes_size.Given as goal

abbrev pub invariant-loop-n : goal.invariant-loop-n
invariant-loop-n l = Past l.fn.nodes l.n-index l.size
