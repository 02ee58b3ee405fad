-- found says whether an element before y is x.
use mathlib.Core.Path.{◌≡◌}
use lib.ListN.{take}
use Rattle.std.specs.List.{list_any}
use Rattle.lists.proofs.holds.Given as goal

abbrev pub invariant-loop-y : goal.invariant-loop-y
invariant-loop-y g l = l.found ≡ list_any (g.T.PartialEq.eq l.x) (take l.y-index l.list)
