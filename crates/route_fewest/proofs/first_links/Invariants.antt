-- Each turn fills in the first link to one node.
use Rattle.route_fewest.proofs.Aiming.{Filled}
use Rattle.route_fewest.proofs.first_links.Given as goal

abbrev pub invariant-loop-to : goal.invariant-loop-to
invariant-loop-to l = Filled l.t l.from l.first l.to
