-- The flood comes to those nodes that are not met from which the goal is reached over such nodes, and each turn goes on from one of them for good. A link to one
-- of them begins a route; all links to them are live when it has ended.
use Prim.Native.Nat.{◌^◌, ◌<◌}
use Rattle.route_ahead.proofs.Looking.{Flood}
use Rattle.route_ahead.proofs.ahead.Given as goal

abbrev pub invariant-loop-front : goal.invariant-loop-front
invariant-loop-front l = (l.front < 2 ^ 16) × Flood l.t l.gone l.front l.seen l.live l.left

abbrev pub decreases-loop-front : goal.decreases-loop-front
decreases-loop-front l = l.left
