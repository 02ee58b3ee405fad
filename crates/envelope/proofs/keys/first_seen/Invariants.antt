-- No key before i is that of an earlier place.
use mathlib.Core.Path.{◌≡◌}
use mathlib.Core.Bool.{false}
use lib.Dec.{eqb}
use Rattle.lists.specs.Places.{any_below, repeat_at, element_at}
use Rattle.envelope.proofs.keys.first_seen.Given as goal

abbrev pub invariant-loop-i : goal.invariant-loop-i
invariant-loop-i l = any_below (repeat_at eqb (element_at 0 l.keys)) l.i ≡ false
