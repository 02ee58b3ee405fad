-- The theorem of the door on a whole ledger: ledger-undo, from leg-undo, place by place.
use Prim.Native.Nat.{ℕ, zero, suc, ◌+◌, ◌*◌, ◌<◌, ◌≤◌}
use mathlib.Core.Path.{◌≡◌, refl, sym, ap, ◌∙◌}
use mathlib.Core.Bool.{true, false}
use mathlib.Core.List.{List, [], ◌∷◌, ◌++◌}
use native.Mathlib.Omega.{arith}
use lib.ListN.{length, get_or, drop}
use lib.Seq.{sets, length-sets, set-get_or, get_or-append-add}
use borrow.Author.Tests.{le-leb}
use Rattle.buffer.specs.Bytes.{Bytes}
use Rattle.lists.specs.Places.{any_below, element_at, row, joined}
use Rattle.lists.proofs.Places.{Agree, any_false, any-never, any-agree, row_at, row-agree, joined-agree, joined_at, length-joined}
use Rattle.lists.proofs.Stores.{sets-append, sets-front}
use Rattle.ledger.specs.declared.Ledger.{Ledger}
use Rattle.ledger.specs.Rules.{no_leg, leg_at}
use Rattle.ledger_image.specs.Leg.{leg_bytes}
use Rattle.ledger_image.specs.Ledger.{leg_count, leg_held, stray_leg_held, readable_ledger, ledger_in, with_ledger}
use Rattle.ledger_image.specs.Promises.{LedgerUndo}
use Rattle.ledger_image.proofs.LegLaws.{length-leg}
use Rattle.ledger_image.proofs.LedgerLaws.{readable}
use Rattle.ledger_image.proofs.LegUndo.{leg-back, leg-known, leg-undo}

-- ---- what was read, written back

-- a row of things of k bytes each that stands there already
row_same : {A : Type 0} (f : A → List ℕ) (k : ℕ) → ((x : A) → length (f x) ≡ k) → (b : List ℕ) (at : ℕ) (d : ℕ → A) (n : ℕ)
    → ((i : ℕ) → i < n → sets b (at + k * i) (f (d i)) ≡ b) → sets b at (joined f d n) ≡ b
unfolding joined
row_same f k w b at d zero h = refl
row_same f k w b at d (suc n) h =
    sym (sets-append (joined f d n) b at (f (d n)) (at + k * n) (rw (length-joined f k w d n) refl))
    ∙ ap (λ (x : List ℕ). sets x (at + k * n) (f (d n))) (row_same f k w b at d n (λ i l. h i (omega arith)))
    ∙ h n (omega arith)

module _ (b : List ℕ) (bytes : Bytes b) (e : readable_ledger b ≡ true) where
  leg-same : (i : ℕ) → i < leg_count b → sets b (1 + 15 * i) (leg_bytes (leg_held b i)) ≡ b
  unfolding leg_held stray_leg_held
  leg-same i l = leg-undo.write b (1 + 15 * i) bytes (any_false (stray_leg_held b) (leg_count b) i (readable b e).none-stray l)

  written_back : with_ledger b (ledger_in b) (leg_count b) ≡ b
  unfolding with_ledger ledger_in leg_at
  written_back =
      let n = leg_count b in
      let d = element_at no_leg (row 128 no_leg (leg_held b) n) in
      ap (λ (x : List ℕ). sets x 1 (joined leg_bytes d n)) (set-get_or b 0 0)
      ∙ ap (sets b 1) (sym (joined-agree leg_bytes (leg_held b) d n (row_at 128 no_leg (leg_held b) n)))
      ∙ row_same leg_bytes 15 length-leg b 1 (leg_held b) n leg-same

-- ---- what was written, read

module _ (b : List ℕ) (l : Ledger) (n : ℕ) (room : 1921 ≤ length b) (counts : l.count ≤ n) (few : n ≤ 128) where
  image : List ℕ
  image = with_ledger b l n

  rest : List ℕ
  rest = drop (length (l.count ∷ joined leg_bytes (leg_at l) n)) b

  image-is : image ≡ (l.count ∷ []) ++ (joined leg_bytes (leg_at l) n ++ rest)
  unfolding image rest with_ledger
  image-is = sets-front b (l.count ∷ joined leg_bytes (leg_at l) n) (omega (arith, length-joined leg_bytes 15 length-leg (leg_at l) n))

  count-back : leg_count image ≡ l.count
  count-back = rw image-is refl

  -- the byte k of the leg at place i
  stands : (i : ℕ) → i < n → (k : ℕ) → k < 15 → get_or image (1 + 15 * i + k) 0 ≡ get_or (leg_bytes (leg_at l i)) k 0
  stands i h k m =
      let e : 1 + 15 * i + k ≡ 1 + (15 * i + k) = omega arith in
      rw (image-is, e) (get_or-append-add (l.count ∷ []) (joined leg_bytes (leg_at l) n ++ rest) (15 * i + k) 0
      ∙ joined_at leg_bytes 15 length-leg (leg_at l) n i k h m rest)

  legs-back : Agree (leg_held image) (leg_at l) l.count
  unfolding leg_held
  legs-back i h = leg-back (leg_at l i) image (1 + 15 * i) (stands i (omega arith))

  none-stray : any_below (stray_leg_held image) l.count ≡ false
  unfolding stray_leg_held
  none-stray =
      any-agree (stray_leg_held image) (λ i. false) l.count (λ i h. leg-known (leg_at l i) image (1 + 15 * i) (stands i (omega arith)))
      ∙ any-never (λ i. false) (λ i. refl) l.count

  long-enough : 1921 ≤ length image
  unfolding image with_ledger
  long-enough = rw length-sets room

  read_again : readable_ledger image ≡ true
  unfolding readable_ledger
  read_again = rw (count-back, none-stray, le-leb l.count 128 (omega arith), le-leb 1921 (length image) long-enough)

  legs-again : ledger_in image ≡ record { count = l.count; legs = row 128 no_leg (leg_at l) l.count }
  unfolding ledger_in
  legs-again = rw (count-back, row-agree 128 no_leg (leg_held image) (leg_at l) l.count legs-back)

pub ledger-undo : LedgerUndo
unfolding image
ledger-undo = record { write = written_back; readable = read_again; read = legs-again }
