-- Laws of a ledger's image: what one that can be read is, what one that can't stands for, and what is written after a call.
use Prim.Native.Nat.{ℕ, ◌≤◌, ◌<◌}
use mathlib.Core.Path.{◌≡◌}
use mathlib.Core.Bool.{true, false}
use mathlib.Core.List.{List}
use lib.ListN.{length, get_or, take}
use borrow.Author.Tests.{leb-true}
use Rattle.lists.specs.Places.{any_below, row}
use Rattle.lists.proofs.Bools.{all_three}
use Rattle.lists.proofs.Places.{element-taken}
use Rattle.ledger.specs.declared.Leg.{Leg}
use Rattle.ledger.specs.declared.Ledger.{Ledger}
use Rattle.ledger.specs.Rules.{no_leg, leg_at}
use Rattle.ledger_image.specs.Ledger.{leg_count, leg_held, stray_leg_held, readable_ledger, ledger_in, broken_ledger, ledger_of}

-- an image that can be read
pub record Readable (b : List ℕ) : Type 0 where
  pub long : 1921 ≤ length b
  pub few : leg_count b ≤ 128
  pub none-stray : any_below (stray_leg_held b) (leg_count b) ≡ false

module _ (b : List ℕ) where
  pub readable : readable_ledger b ≡ true → Readable b
  unfolding readable_ledger
  readable h =
      let w = all_three _ _ _ h in
      record { long = leb-true 1921 (length b) w.0; few = leb-true (leg_count b) 128 w.1.0; none-stray = w.1.1 }

  pub ledger-read : readable_ledger b ≡ true → {legs : List Leg} → legs ≡ row 128 no_leg (leg_held b) (leg_count b)
      → ◌≡◌ {A = Ledger} (record { count = leg_count b; legs = legs }) (ledger_of b)
  unfolding ledger_of ledger_in
  ledger-read h e = rw (h, e)

  pub ledger-unread : readable_ledger b ≡ false → broken_ledger ≡ ledger_of b
  unfolding ledger_of
  ledger-unread h = rw h

-- the legs that the code reads: the first n places are the ledger's own
pub leg-read : (l : Ledger) (z : Leg) (n i : ℕ) → i < length (take n l.legs) → get_or (take n l.legs) i z ≡ leg_at l i
unfolding leg_at
leg-read l z n i h = element-taken no_leg z l.legs n i h
