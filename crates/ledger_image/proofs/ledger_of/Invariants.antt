-- The image is whole, and the legs before i are in the row.
use Prim.Native.Nat.{◌≤◌}
use mathlib.Core.Path.{◌≡◌}
use lib.ListN.{length}
use Rattle.lists.specs.Places.{row}
use Rattle.ledger.specs.Rules.{no_leg}
use Rattle.ledger_image.specs.Ledger.{leg_count, leg_held}
use Rattle.ledger_image.proofs.ledger_of.Given as goal

abbrev pub invariant-loop-i : goal.invariant-loop-i
invariant-loop-i l =
    (leg_count l.b ≤ 128) × (1921 ≤ length l.b) × (l.legs ≡ row 128 no_leg (leg_held l.b) l.i)
