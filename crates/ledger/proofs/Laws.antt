-- Laws of the ledger's rules: what an obedient ledger is, and that legs alike are legs with the same key.
use Prim.Native.Nat.{ℕ, ◌+◌, ◌*◌, ◌<◌, ◌≤◌}
use mathlib.Core.Path.{◌≡◌, refl, sym, ap, ◌∙◌}
use mathlib.Core.Bool.{Bool, beq, true, false, not, ◌&&◌, cond}
use mathlib.Core.List.{List}
use native.Mathlib.Omega.{arith}
use lib.Dec.{leb, ltb, eqb}
use lib.ListN.{length, get_or, take}
use borrow.Author.Tests.{leb-true, ltb-true, ltb-false, eqb-true, eq-eqb, ne_eqb, le-leb, lt-leb, not-true, not-false}
use Rattle.lists.specs.Places.{any_below, same_at, repeat_at, repeats, element_at, row}
use Rattle.lists.proofs.Bools.{and_left, and_right, and_both, both-same}
use Rattle.lists.proofs.Places.{element-taken, any-agree, any-never, any_false, any_found, any-more, repeats-agree, row_at}
use Rattle.address.specs.Address.{in_range}
use Rattle.address_bytes.specs.Packed.{address_key}
use Rattle.address_bytes.proofs.PackedLaws.{key-same, key-small}
use Rattle.ledger.specs.declared.Leg.{Leg}
use Rattle.ledger.specs.declared.Ledger.{Ledger}
use Rattle.ledger.specs.Rules.{no_leg, leg_at, is_open, is_open_leg, alike, ticks_obey, leg_obeys, broken_at, obeys}
use Rattle.ledger.specs.Private.{leg_key, leg_key_at, same_key}

-- ---- a leg that is right

-- ticks are left exactly where the leg is open
ticks-told : (g : Leg) {o : Bool} → o ≡ is_open g.standing → beq o (ltb 0 g.ticks) ≡ ticks_obey g
unfolding ticks_obey
ticks-told g e = rw e (go (is_open g.standing) (ltb 0 g.ticks) refl)
  where
    go : (o left : Bool) → ltb 0 g.ticks ≡ left → beq o left ≡ cond o left (eqb g.ticks 0)
    go true true h = refl
    go true false h = refl
    go false true h = let l = ltb-true 0 g.ticks h in sym (ne_eqb g.ticks 0 (omega arith))
    go false false h = let l = ltb-false 0 g.ticks h in sym (eq-eqb g.ticks 0 (omega arith))

pub record Right (g : Leg) : Type 0 where
  pub ticks : ticks_obey g ≡ true
  pub source : in_range g.source ≡ true
  pub destination : in_range g.destination ≡ true
  pub seq : g.seq.0 ≤ 32767

pub right-told : (g : Leg) {o source destination : Bool} → o ≡ is_open g.standing → source ≡ in_range g.source → destination ≡ in_range g.destination
    → (beq o (ltb 0 g.ticks) && source && destination && leb g.seq.0 32767) ≡ leg_obeys g
unfolding leg_obeys
right-told g o s d = rw (ticks-told g o, s, d)

pub right : (g : Leg) → leg_obeys g ≡ true → Right g
unfolding leg_obeys
right g h =
    let p = and_left (ticks_obey g && in_range g.source && in_range g.destination) _ h in
    let q = and_left (ticks_obey g && in_range g.source) _ p in
    record {
      ticks = and_left (ticks_obey g) _ q;
      source = and_right (ticks_obey g) _ q;
      destination = and_right (ticks_obey g && in_range g.source) _ p;
      seq = leb-true _ _ (and_right (ticks_obey g && in_range g.source && in_range g.destination) _ h);
    }

-- ---- legs alike have the same key

-- three numbers packed into one are equal exactly if it is
packed : (a b c a' b' c' : ℕ) → b < 16777216 → b' < 16777216 → c ≤ 32767 → c' ≤ 32767
    → (eqb a' a && eqb b' b && eqb c' c) ≡ eqb ((a * 16777216 + b) * 32768 + c + 1) ((a' * 16777216 + b') * 32768 + c' + 1)
packed a b c a' b' c' hb hb' hc hc' =
    both-same (eqb a' a && eqb b' b && eqb c' c) (eqb ((a * 16777216 + b) * 32768 + c + 1) ((a' * 16777216 + b') * 32768 + c' + 1))
    (λ h.
    let p = eqb-true a' a (and_left _ _ (and_left _ _ h)) in
    let q = eqb-true b' b (and_right (eqb a' a) _ (and_left _ _ h)) in
    let r = eqb-true c' c (and_right (eqb a' a && eqb b' b) _ h) in
    eq-eqb ((a * 16777216 + b) * 32768 + c + 1) ((a' * 16777216 + b') * 32768 + c' + 1) (omega arith))
    (λ h.
    let e : (a * 16777216 + b) * 32768 + c + 1 ≡ (a' * 16777216 + b') * 32768 + c' + 1 = eqb-true _ _ h in
    let p : a' ≡ a = omega arith in
    let q : b' ≡ b = omega arith in
    let r : c' ≡ c = omega arith in
    and_both (and_both (eq-eqb a' a p) (eq-eqb b' b q)) (eq-eqb c' c r))

-- a key is 0 exactly where the leg is settled
open-keys : (x y p q r : Bool) (k m : ℕ) → (p && q && r) ≡ eqb (k + 1) (m + 1)
    → (x && (y && p && q && r)) ≡ (not (eqb (cond x (k + 1) 0) 0) && eqb (cond x (k + 1) 0) (cond y (m + 1) 0))
open-keys false y p q r k m e = refl
open-keys true false p q r k m e = rw (ne_eqb (k + 1) 0 (omega arith))
open-keys true true p q r k m e = rw (ne_eqb (k + 1) 0 (omega arith)) e

pub alike-key : (g h : Leg) → leg_obeys g ≡ true → leg_obeys h ≡ true → alike g h ≡ same_key (leg_key g) (leg_key h)
unfolding alike is_open_leg same_key
alike-key g h rg rh =
    let a = right g rg in
    let b = right h rh in
    rw (
      key-same h.source g.source b.source a.source,
      key-same h.destination g.destination b.destination a.destination,
    )
    (open-keys (is_open g.standing) (is_open h.standing) _ _ _
    ((address_key g.source * 16777216 + address_key g.destination) * 32768 + g.seq.0)
    ((address_key h.source * 16777216 + address_key h.destination) * 32768 + h.seq.0)
    (packed (address_key g.source) (address_key g.destination) g.seq.0 (address_key h.source) (address_key h.destination) h.seq.0
    (key-small g.destination a.destination) (key-small h.destination b.destination) a.seq b.seq))

-- no leg is wrong: then legs alike are keys alike
pub legs-right : (l : Ledger) → any_below (broken_at l) l.count ≡ false → (i : ℕ) → i < l.count → leg_obeys (leg_at l i) ≡ true
unfolding broken_at
legs-right l h i k = not-false _ (any_false (broken_at l) l.count i h k)

pub alike-keys : (l : Ledger) → any_below (broken_at l) l.count ≡ false → {keys : List ℕ} → keys ≡ row 128 0 (leg_key_at l) l.count
    → repeats same_key (element_at 0 keys) l.count ≡ repeats alike (leg_at l) l.count
unfolding leg_key_at
alike-keys l h {keys} e =
    rw e
    (repeats-agree same_key alike (element_at 0 (row 128 0 (leg_key_at l) l.count)) (leg_at l) l.count (λ i j hi hj.
    ap (λ (k : ℕ). same_key k (element_at 0 (row 128 0 (leg_key_at l) l.count) j)) (sym (row_at 128 0 (leg_key_at l) l.count i hi))
    ∙ ap (same_key (leg_key (leg_at l i))) (sym (row_at 128 0 (leg_key_at l) l.count j hj))
    ∙ sym (alike-key (leg_at l i) (leg_at l j) (legs-right l h i hi) (legs-right l h j hj))))

-- the search for a key: none is that of a settled leg
pub open-seen : (d : ℕ → ℕ) (i : ℕ) {b : Bool} → b ≡ any_below (same_at eqb d i) i → (not (eqb (d i) 0) && b) ≡ repeat_at same_key d i
unfolding repeat_at same_at same_key
open-seen d i e = rw e (go (eqb (d i) 0) refl)
  where
    go : (z : Bool) → eqb (d i) 0 ≡ z → (not z && any_below (same_at eqb d i) i) ≡ any_below (same_at same_key d i) i
    go true h = sym (any-never (same_at same_key d i) (λ j. rw h) i)
    go false h = any-agree (same_at eqb d i) (same_at same_key d i) i (λ j l. rw h)

-- ---- whether a ledger obeys its rules

module _ (l : Ledger) where
  -- the legs that the code reads: those that count are the ledger's own
  pub leg-read : (z : Leg) (i : ℕ) → i < length (take l.count l.legs) → get_or (take l.count l.legs) i z ≡ leg_at l i
  unfolding leg_at
  leg-read z i h = element-taken no_leg z l.legs l.count i h

  pub too_many : 128 < l.count → false ≡ obeys l
  unfolding obeys
  too_many h = rw (lt-leb l.count 128 h)

  pub wrong-leg : l.count ≤ 128 → (i : ℕ) → i < l.count → leg_obeys (leg_at l i) ≡ false → false ≡ obeys l
  unfolding obeys broken_at
  wrong-leg h i k w = rw (le-leb l.count 128 h, any_found (broken_at l) l.count i k (rw w))

  pub right-next : (i : ℕ) → any_below (broken_at l) i ≡ false → leg_obeys (leg_at l i) ≡ true → any_below (broken_at l) (i + 1) ≡ false
  unfolding broken_at
  right-next i h r = any-more (broken_at l) i h (rw r)

  pub by_alike : l.count ≤ 128 → any_below (broken_at l) l.count ≡ false → {b : Bool} → b ≡ repeats alike (leg_at l) l.count → not b ≡ obeys l
  unfolding obeys
  by_alike h w e = rw (le-leb l.count 128 h, w, e)

-- an obedient ledger
pub record Obedient (l : Ledger) : Type 0 where
  pub few : l.count ≤ 128
  pub each : (i : ℕ) → i < l.count → leg_obeys (leg_at l i) ≡ true
  pub apart : repeats alike (leg_at l) l.count ≡ false

pub obedient : (l : Ledger) → obeys l ≡ true → Obedient l
unfolding obeys
obedient l h =
    let p = and_left _ _ h in
    record {
      few = leb-true _ _ (and_left _ _ p);
      each = legs-right l (not-true _ (and_right (leb l.count 128) _ p));
      apart = not-true _ (and_right (leb l.count 128 && not (any_below (broken_at l) l.count)) _ h);
    }
