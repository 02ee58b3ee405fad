-- No place before the one that is looked at is stray.
use mathlib.Core.Path.{◌≡◌}
use mathlib.Core.Bool.{false}
use Rattle.lists.specs.Places.{any_below}
use Rattle.ledger_image.specs.Ledger.{stray_leg_held}
use Rattle.ledger_image.proofs.any_stray.Given as goal

abbrev pub invariant-loop-i : goal.invariant-loop-i
invariant-loop-i l = any_below (stray_leg_held l.b) l.i ≡ false
