-- From call to call a leg leaves the open standing once at most, since its line only grows and a leg that is closed rests.
use Prim.Native.Nat.{ℕ, zero, suc, ◌≤◌, ◌<◌}
use mathlib.Core.Path.{◌≡◌, refl, sym, ap, ◌∙◌}
use mathlib.Core.Bool.{Bool, true, false, ◌&&◌}
use mathlib.Core.List.{List, [], ◌∷◌}
use native.Mathlib.Nat.{le_of_suc-le-suc, not-suc-le-zero}
use native.Mathlib.Omega.{arith}
use native.Mathlib.Decide.{dec_lt, dec_le}
use lib.Dec.{ltb}
use lib.ListN.{length, take}
use borrow.Author.Tests.{not-true, ltb-true, lt-ltb, le-ltb}
use Rattle.lists.specs.Places.{element_at}
use Rattle.lists.proofs.Bools.{both_ways, and_left, and_right}
use Rattle.ledger.specs.declared.Standing.TheVariants.{Undeliverable}
use Rattle.ledger.specs.declared.Leg.{Leg}
use Rattle.ledger.specs.Rules.{no_leg, is_open}
use Rattle.ledger_history.specs.Log.{Made}
use Rattle.ledger_history.specs.Account.{Event, Line, new_line, account, leg_after, as_read, standing_then, open_then, leaves_then}
use Rattle.ledger_history.proofs.Reading.{new-reads}
use Rattle.ledger_history.proofs.Resting.{closed-stays, undeliverable-closed, undeliverable-never}
use Rattle.ledger_history.proofs.Growing.{line_at}
use Rattle.ledger_history.proofs.Lasting.{at-later}

past : (s : List Line) (n : ℕ) → length s ≤ n → line_at s n ≡ new_line no_leg
past [] n h = refl
past (x ∷ s) zero h = absurd (not-suc-le-zero h)
past (x ∷ s) (suc n) h = past s n (le_of_suc-le-suc h)

module _ (ms : List Made) (n : ℕ) where
  -- the leg has its line after the first i calls
  abbrev Accepted : ℕ → Type 0
  Accepted i = n < length (account (take i ms))

  abbrev line : ℕ → Line
  line i = line_at (account (take i ms)) n

  open_told : (i : ℕ) → open_then ms n i ≡ true → Accepted i × (is_open (standing_then ms n i) ≡ true)
  unfolding open_then
  open_told i h =
      let a = ltb n (length (account (take i ms))) in
      (ltb-true n (length (account (take i ms))) (and_left a _ h), and_right a _ h)

  closed-told : (i : ℕ) → Accepted i → open_then ms n i ≡ false → is_open (standing_then ms n i) ≡ false
  unfolding open_then
  closed-told i a h = ap (λ (b : Bool). b && is_open (standing_then ms n i)) (sym (lt-ltb _ _ a)) ∙ h

  -- ---- closed, and closed later

  closed-later : (i j : ℕ) → i ≤ j → Accepted i → is_open (standing_then ms n i) ≡ false → is_open (standing_then ms n j) ≡ false
  unfolding standing_then element_at as_read
  closed-later i j le h c =
      let g = (at-later ms n i j le h).grown in
      ap (λ (l : Leg). is_open (leg_after l (line j).events).standing) g.leg
      ∙ ap (λ (es : List Event). is_open (leg_after (line i).leg es).standing) g.events
      ∙ closed-stays (line i).leg (line i).events g.more c

  not-again : (i j : ℕ) → i < j → leaves_then ms n i ≡ true → leaves_then ms n j ≡ true → ⊥
  unfolding leaves_then
  not-again i j lt a b =
      let still = (at-later ms n i (suc i) (omega arith) (open_told i (and_left (open_then ms n i) _ a)).0).there in
      let closed = closed-told (suc i) still (not-true _ (and_right (open_then ms n i) _ a)) in
      both_ways (open_told j (and_left (open_then ms n j) _ b)).1 (closed-later (suc i) j lt still closed)

  pub once : (i j : ℕ) → leaves_then ms n i ≡ true → leaves_then ms n j ≡ true → i ≡ j
  once i j a b = go (dec_lt i j) (dec_lt j i)
    where
      go : Dec (i < j) → Dec (j < i) → i ≡ j
      go (yes h) d = absurd (not-again i j h a b)
      go (no h) (yes k) = absurd (not-again j i k b a)
      go (no h) (no k) = omega arith

  -- ---- undeliverable, and open neither before nor after

  same-leg : (i j : ℕ) → Accepted i → Accepted j → (line j).leg ≡ (line i).leg
  same-leg i j a b = go (dec_le i j)
    where
      go : Dec (i ≤ j) → (line j).leg ≡ (line i).leg
      go (yes h) = (at-later ms n i j h a).grown.leg
      go (no h) = sym (at-later ms n j i (omega arith) b).grown.leg

  -- a line that is not written yet reads as a place with no leg, which is open
  open-yet : (i : ℕ) → length (account (take i ms)) ≤ n → is_open (standing_then ms n i) ≡ true
  unfolding standing_then element_at is_open
  open-yet i h = ap (λ (x : Line). is_open (as_read x).standing) (past (account (take i ms)) n h) ∙ ap (λ (g : Leg). is_open g.standing) (new-reads no_leg)

  closed-always : (i j : ℕ) → standing_then ms n i ≡ Undeliverable → Accepted i → Accepted j → is_open (standing_then ms n j) ≡ false
  unfolding standing_then element_at as_read
  closed-always i j u a b =
      ap (λ (l : Leg). is_open (leg_after l (line j).events).standing) (same-leg i j a b)
      ∙ undeliverable-never (line i).leg (line i).events u (line j).events

  pub never : (i j : ℕ) → standing_then ms n i ≡ Undeliverable → open_then ms n j ≡ false
  unfolding open_then
  never i j u = go (dec_lt n (length (account (take i ms)))) (dec_lt n (length (account (take j ms))))
    where
      go : Dec (Accepted i) → Dec (Accepted j) → open_then ms n j ≡ false
      go d (no b) = ap (λ (b : Bool). b && is_open (standing_then ms n j)) (le-ltb n (length (account (take j ms))) (omega arith))
      go (no a) (yes b) = absurd (both_ways (open-yet i (omega arith)) (ap is_open u ∙ undeliverable-closed))
      go (yes a) (yes b) = ap (λ (b : Bool). b && is_open (standing_then ms n j)) (lt-ltb _ _ b) ∙ closed-always i j u a b
