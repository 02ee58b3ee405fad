-- The theorem of the door on one leg: leg-undo. Each of the 15 bytes says one thing, and the standing's three bytes say which standing it is.
use Prim.Native.Nat.{ℕ, zero, suc, ◌+◌, ◌/◌, ◌%◌, ◌<◌, ◌≤◌}
use mathlib.Core.Path.{◌≡◌, refl, sym, ap, ◌∙◌}
use mathlib.Core.Bool.{false, not, ◌&&◌}
use mathlib.Core.List.{List, [], ◌∷◌, ◌++◌, append_assoc}
use native.Mathlib.Nat.{add-zero, add_assoc}
use native.Mathlib.Omega.{arith}
use lib.Dec.{eqb}
use lib.ListN.{length, get_or, take, drop, set, get_or-append}
use lib.Seq.{sets, sets-eq, set-get_or, get_or-append-add, length-take-le}
use borrow.Author.Tests.{eqb-true, ltb-false, not-false}
use Rattle.buffer.specs.Bytes.{Bytes, word_at}
use Rattle.lists.specs.Places.{firsts}
use Rattle.lists.proofs.Bools.{and_left, and_right, or-no-left}
use Rattle.lists.proofs.Places.{firsts_at}
use Rattle.ledger.specs.declared.Standing.{Standing}
use Rattle.ledger.specs.declared.Standing.TheVariants.{Open, Acknowledged, Refused, Undeliverable, TimedOut, Waiting}
use Rattle.ledger.specs.declared.Leg.{Leg}
use Rattle.address_bytes.specs.Wide.{address_in}
use Rattle.ledger_image.specs.Leg.{standing_bytes, standing_of, stray_standing, leg_bytes, leg_in, stray_leg_in}
use Rattle.ledger_image.specs.Promises.{LegUndo}
use Rattle.buffer.proofs.Words.{word_back, word-high, word_low}
use Rattle.address_bytes.proofs.WideLaws.{address-back}
use Rattle.ledger_image.proofs.LegLaws.{length-leg}

-- ---- stores

-- what was stored stands there
stored_at : (b : List ℕ) (at : ℕ) (xs : List ℕ) → at + length xs ≤ length b → (k : ℕ) → k < length xs → get_or (sets b at xs) (at + k) 0 ≡ get_or xs k 0
stored_at b at xs h k l =
    let e : at ≡ length (take at b) = sym (length-take-le at b (omega arith)) in
    ap (λ (y : List ℕ). get_or y (at + k) 0) (sets-eq xs b at h ∙ append_assoc (take at b) xs (drop (at + length xs) b))
    ∙ ap (λ (j : ℕ). get_or (take at b ++ (xs ++ drop (at + length xs) b)) (j + k) 0) e
    ∙ get_or-append-add (take at b) (xs ++ drop (at + length xs) b) k 0
    ∙ get_or-append xs (drop (at + length xs) b) 0 k l

-- storing what stands there changes nothing
stored_same : (xs b : List ℕ) (at : ℕ) → ((k : ℕ) → k < length xs → get_or xs k 0 ≡ get_or b (at + k) 0) → sets b at xs ≡ b
stored_same [] b at h = refl
stored_same (x ∷ xs) b at h =
    let p : x ≡ get_or b at 0 = h 0 (omega arith) ∙ rw add-zero in
    let q : set b at x ≡ b = rw p (set-get_or b at 0) in
    rw q (stored_same xs b (suc at) (λ k l. h (suc k) (omega arith) ∙ ap (λ (j : ℕ). get_or b j 0) (omega arith)))

-- ---- a standing

standing-back : (s : Standing) → standing_of (get_or (standing_bytes s) 0 0) (get_or (standing_bytes s) 1 0) (get_or (standing_bytes s) 2 0) ≡ s
unfolding standing_of standing_bytes
standing-back Open = refl
standing-back Acknowledged = refl
standing-back (Refused reason code) = refl
standing-back Undeliverable = refl
standing-back TimedOut = refl
standing-back Waiting = refl

standing-known : (s : Standing) → stray_standing (get_or (standing_bytes s) 0 0) (get_or (standing_bytes s) 1 0) (get_or (standing_bytes s) 2 0) ≡ false
unfolding stray_standing standing_bytes
standing-known Open = refl
standing-known Acknowledged = refl
standing-known (Refused reason code) = refl
standing-known Undeliverable = refl
standing-known TimedOut = refl
standing-known Waiting = refl

no-reason : (reason code : ℕ) → not (eqb reason 0 && eqb code 0) ≡ false → (reason ≡ 0) × (code ≡ 0)
no-reason reason code e =
    let w = not-false _ e in
    (eqb-true reason 0 (and_left _ _ w), eqb-true code 0 (and_right (eqb reason 0) _ w))

-- a standing that is known is written as it was read
standing-forth : (kind reason code : ℕ) → stray_standing kind reason code ≡ false → standing_bytes (standing_of kind reason code) ≡ kind ∷ reason ∷ code ∷ []
unfolding stray_standing standing_of standing_bytes
standing-forth zero reason code e = let r = no-reason reason code e in rw (r.0, r.1)
standing-forth (suc zero) reason code e = let r = no-reason reason code e in rw (r.0, r.1)
standing-forth (suc (suc zero)) reason code e = refl
standing-forth (suc (suc (suc zero))) reason code e = let r = no-reason reason code e in rw (r.0, r.1)
standing-forth (suc (suc (suc (suc zero)))) reason code e = let r = no-reason reason code e in rw (r.0, r.1)
standing-forth (suc (suc (suc (suc (suc zero))))) reason code e = let r = no-reason reason code e in rw (r.0, r.1)
standing-forth (suc (suc (suc (suc (suc (suc k)))))) reason code e =
    let h = ltb-false 5 (suc (suc (suc (suc (suc (suc k)))))) (or-no-left _ _ e) in absurd (omega arith)

-- ---- a leg is read from its 15 bytes, wherever they stand

module _ (g : Leg) (b : List ℕ) (at : ℕ) (h : (k : ℕ) → k < 15 → get_or b (at + k) 0 ≡ get_or (leg_bytes g) k 0) where
  byte : (j k : ℕ) → j ≡ at + k → k < 15 → get_or b j 0 ≡ get_or (leg_bytes g) k 0
  byte j k e l = ap (λ (i : ℕ). get_or b i 0) e ∙ h k l

  pub leg-back : leg_in b at ≡ g
  unfolding leg_in leg_bytes
  leg-back =
      let source : address_in b at ≡ g.source =
      address-back g.source b at (byte at 0 (omega arith) (omega arith)) (byte (at + 1) 1 refl (omega arith)) (byte (at + 1 + 1) 2 (omega arith) (omega arith)) (byte (at + 3) 3 refl (omega arith)) in
      let destination : address_in b (at + 4) ≡ g.destination =
      address-back g.destination b (at + 4) (byte (at + 4) 4 refl (omega arith)) (byte (at + 4 + 1) 5 (omega arith) (omega arith)) (byte (at + 4 + 1 + 1) 6 (omega arith) (omega arith)) (byte (at + 4 + 3) 7 (omega arith) (omega arith)) in
      let seq : word_at b (at + 8) ≡ g.seq.0 = rw (byte (at + 8) 8 refl (omega arith), byte (at + 8 + 1) 9 (omega arith) (omega arith)) (word_back g.seq.0) in
      let ticks : word_at b (at + 10) ≡ g.ticks = rw (byte (at + 10) 10 refl (omega arith), byte (at + 10 + 1) 11 (omega arith) (omega arith)) (word_back g.ticks) in
      let standing : standing_of (get_or b (at + 12) 0) (get_or b (at + 13) 0) (get_or b (at + 14) 0) ≡ g.standing =
      rw (byte (at + 12) 12 refl (omega arith), byte (at + 13) 13 refl (omega arith), byte (at + 14) 14 refl (omega arith)) (standing-back g.standing) in
      λ i. record { source = source i; destination = destination i; seq = record { 0 = seq i }; ticks = ticks i; standing = standing i }

  pub leg-known : stray_leg_in b at ≡ false
  unfolding stray_leg_in leg_bytes
  leg-known = rw (byte (at + 12) 12 refl (omega arith), byte (at + 13) 13 refl (omega arith), byte (at + 14) 14 refl (omega arith)) (standing-known g.standing)

-- ---- and its bytes are those that it was read from

module _ (b : List ℕ) (bytes : Bytes b) (at : ℕ) where
  first : (j : ℕ) → word_at b j / 256 ≡ get_or b j 0
  first j = word-high b bytes j

  second : (j : ℕ) → word_at b j % 256 ≡ get_or b (j + 1) 0
  second j = word_low b bytes j

  leg-forth : stray_leg_in b at ≡ false → leg_bytes (leg_in b at) ≡ firsts (λ k. get_or b (at + k) 0) 15
  unfolding firsts leg_in leg_bytes stray_leg_in
  leg-forth e =
      rw (
        first (at + 1),
        second (at + 1),
        first (at + 4 + 1),
        second (at + 4 + 1),
        first (at + 8),
        second (at + 8),
        first (at + 10),
        second (at + 10),
        standing-forth (get_or b (at + 12) 0) (get_or b (at + 13) 0) (get_or b (at + 14) 0) e,
      )
      (simp (add_assoc, add-zero))

pub leg-undo : LegUndo
leg-undo = record {
  read = λ b at g h. leg-back g (sets b at (leg_bytes g)) at (stored b at g h);
  known = λ b at g h. leg-known g (sets b at (leg_bytes g)) at (stored b at g h);
  write = λ b at bytes e. stored_same (leg_bytes (leg_in b at)) b at (λ k l. ap (λ (x : List ℕ). get_or x k 0) (leg-forth b bytes at e) ∙ firsts_at (λ k. get_or b (at + k) 0) 15 k 0 (rw (length-leg (leg_in b at)) at l));
}
  where
    stored : (b : List ℕ) (at : ℕ) (g : Leg) → at + 15 ≤ length b → (k : ℕ) → k < 15 → get_or (sets b at (leg_bytes g)) (at + k) 0 ≡ get_or (leg_bytes g) k 0
    stored b at g h k l = stored_at b at (leg_bytes g) (rw (length-leg g) h) k (rw (length-leg g) l)
