-- After k rounds `seen` has the nodes from which the other is at most k links away, and the first round in which a link leads into them from where one stands
-- has the link.
use Rattle.route_fewest.proofs.Searching.{Searched}
use Rattle.route_fewest.proofs.first_link.Given as goal

abbrev pub invariant-loop-front : goal.invariant-loop-front
invariant-loop-front l = Searched l.t l.from l.to l.front l.seen l.left

abbrev pub decreases-loop-front : goal.decreases-loop-front
decreases-loop-front l = l.left
