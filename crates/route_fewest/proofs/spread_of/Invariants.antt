-- Each turn takes one node for good, and what is gathered with what the nodes left bring is the whole.
use lib.ListN.{length}
use Rattle.route_links.specs.Sets.{places_in}
use Rattle.route_fewest.proofs.Gathering.{Gathered}
use Rattle.route_fewest.proofs.spread_of.Given as goal

abbrev pub invariant-loop-rest : goal.invariant-loop-rest
invariant-loop-rest l = Gathered l.t l.nodes l.links l.from l.rest

abbrev pub decreases-loop-rest : goal.decreases-loop-rest
decreases-loop-rest l = length (places_in l.rest)
