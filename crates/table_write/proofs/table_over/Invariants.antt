-- The entries for the nodes before b are filled in.
use Rattle.table_write.proofs.Filling.{Filled}
use Rattle.table_write.proofs.table_over.Given as goal

abbrev pub invariant-loop-b : goal.invariant-loop-b
invariant-loop-b l = Filled l.first l.c.nodes l.c.links l.s l.b l.entries l.count
