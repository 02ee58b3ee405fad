-- What is left of the given route falls.
use lib.ListN.{length}
use Prim.Native.Nat.{◌-◌}
use Rattle.route_search.proofs.given.+later.Given as goal

abbrev pub decreases-later : goal.decreases-later
decreases-later l = length l.r.now - l.d
