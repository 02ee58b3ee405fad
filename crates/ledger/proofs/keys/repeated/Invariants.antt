-- No key before i is an open leg's and that of an earlier place.
use mathlib.Core.Path.{◌≡◌}
use mathlib.Core.Bool.{false}
use Rattle.lists.specs.Places.{any_below, repeat_at, element_at}
use Rattle.ledger.specs.Private.{same_key}
use Rattle.ledger.proofs.keys.repeated.Given as goal

abbrev pub invariant-loop-i : goal.invariant-loop-i
invariant-loop-i l = any_below (repeat_at same_key (element_at 0 l.keys)) l.i ≡ false
