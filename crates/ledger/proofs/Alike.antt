-- The rules of a ledger over its places: what two legs alike are, that no two legs of an obedient ledger are, and what makes a ledger obedient.
use Prim.Native.Nat.{ℕ, ◌<◌, ◌≤◌}
use mathlib.Core.Path.{◌≡◌, sym, ap, ◌∙◌}
use mathlib.Core.Bool.{true, false, ◌&&◌}
use native.Mathlib.Omega.{arith}
use native.Mathlib.Decide.{dec_lt, ℕ_discrete}
use borrow.Author.Tests.{le-leb, eqb-true, eq-eqb}
use Rattle.lists.specs.Places.{same_at, repeat_at, repeats}
use Rattle.lists.proofs.Bools.{and_left, and_right, and_both, both-same, both_ways}
use Rattle.lists.proofs.Places.{any_false, any-nowhere}
use Rattle.address.specs.declared.Seq.{Seq}
use Rattle.address.specs.declared.Address.{Address}
use Rattle.address.specs.Address.{same_address}
use Rattle.address.proofs.Laws.{same-eq, same_refl}
use Rattle.ledger.specs.declared.Leg.{Leg}
use Rattle.ledger.specs.declared.Ledger.{Ledger}
use Rattle.ledger.specs.Rules.{leg_at, is_open, is_open_leg, alike, leg_obeys, broken_at, obeys}
use Rattle.ledger.proofs.Laws.{Right, Obedient}

-- ---- legs alike

-- an open leg with this source, destination and sequence number
pub record OpenFor (source destination : Address) (seq : ℕ) (g : Leg) : Type 0 where
  pub stands_open : is_open g.standing ≡ true
  pub from : g.source ≡ source
  pub to : g.destination ≡ destination
  pub numbered : g.seq.0 ≡ seq

module _ (source destination : Address) (seq : Seq) (g : Leg) where
  pub open-for : is_open_leg source destination seq g ≡ true → OpenFor source destination seq.0 g
  unfolding is_open_leg
  open-for h =
      let p = and_left (is_open g.standing && same_address g.source source && same_address g.destination destination) _ h in
      let q = and_left (is_open g.standing && same_address g.source source) _ p in
      record {
        stands_open = and_left (is_open g.standing) _ q;
        from = same-eq _ _ (and_right (is_open g.standing) _ q);
        to = same-eq _ _ (and_right (is_open g.standing && same_address g.source source) _ p);
        numbered = eqb-true _ _ (and_right (is_open g.standing && same_address g.source source && same_address g.destination destination) _ h);
      }

  pub is-for : OpenFor source destination seq.0 g → is_open_leg source destination seq g ≡ true
  unfolding is_open_leg
  is-for o =
      and_both (and_both (and_both o.stands_open (ap (same_address g.source) (sym o.from) ∙ same_refl g.source)) (ap (same_address g.destination) (sym o.to) ∙ same_refl g.destination))
      (eq-eqb _ _ o.numbered)

pub record Alike (g h : Leg) : Type 0 where
  pub first : is_open g.standing ≡ true
  pub second : OpenFor g.source g.destination g.seq.0 h

module _ (g h : Leg) where
  pub alike_is : alike g h ≡ true → Alike g h
  unfolding alike
  alike_is e = record { first = and_left (is_open g.standing) _ e; second = open-for _ _ _ h (and_right (is_open g.standing) _ e) }

  pub is-alike : Alike g h → alike g h ≡ true
  unfolding alike
  is-alike a = and_both a.first (is-for _ _ _ h a.second)

turned : (g h : Leg) → Alike g h → Alike h g
turned g h a =
    let s = a.second in
    record { first = s.stands_open; second = record { stands_open = a.first; from = sym s.from; to = sym s.to; numbered = sym s.numbered } }

pub alike_turned : (g h : Leg) → alike g h ≡ alike h g
alike_turned g h =
    both-same (alike g h) (alike h g) (λ e. is-alike h g (turned g h (alike_is g h e))) (λ e. is-alike g h (turned h g (alike_is h g e)))

-- ---- a leg that is right

pub leg-obeys : (g : Leg) → Right g → leg_obeys g ≡ true
unfolding leg_obeys
leg-obeys g r = and_both (and_both (and_both r.ticks r.source) r.destination) (le-leb _ _ r.seq)

-- ---- an obedient ledger

apart-earlier : (l : Ledger) → Obedient l → (i j : ℕ) → i < l.count → j < i → alike (leg_at l i) (leg_at l j) ≡ false
unfolding repeats repeat_at same_at
apart-earlier l o i j hi hj = any_false (same_at alike (leg_at l) i) i j (any_false (repeat_at alike (leg_at l)) l.count i o.apart hi) hj

-- no two of its legs are alike
pub apart-at : (l : Ledger) → Obedient l → (i j : ℕ) → i < l.count → j < l.count → (i ≡ j → ⊥) → alike (leg_at l i) (leg_at l j) ≡ false
apart-at l o i j hi hj ne = go (dec_lt j i)
  where
    go : Dec (j < i) → alike (leg_at l i) (leg_at l j) ≡ false
    go (yes h) = apart-earlier l o i j hi h
    go (no h) = alike_turned (leg_at l i) (leg_at l j) ∙ apart-earlier l o j i hj (omega (arith, ne))

-- so at most one is open with a source, a destination and a sequence number
pub only_one : (l : Ledger) → Obedient l → (source destination : Address) (seq : Seq) (i j : ℕ) → i < l.count → j < l.count
    → is_open_leg source destination seq (leg_at l i) ≡ true → is_open_leg source destination seq (leg_at l j) ≡ true → i ≡ j
only_one l o source destination seq i j hi hj p q = go (ℕ_discrete i j)
  where
    both : OpenFor source destination seq.0 (leg_at l i) → OpenFor source destination seq.0 (leg_at l j) → Alike (leg_at l i) (leg_at l j)
    both a b = record { first = a.stands_open; second = record { stands_open = b.stands_open; from = b.from ∙ sym a.from; to = b.to ∙ sym a.to; numbered = b.numbered ∙ sym a.numbered } }

    go : Dec (i ≡ j) → i ≡ j
    go (yes e) = e
    go (no ne) =
        absurd (both_ways
        (is-alike (leg_at l i) (leg_at l j) (both (open-for source destination seq (leg_at l i) p) (open-for source destination seq (leg_at l j) q)))
        (apart-at l o i j hi hj ne))

-- and what makes a ledger obedient
pub obeys-from : (l : Ledger) → l.count ≤ 128 → ((i : ℕ) → i < l.count → leg_obeys (leg_at l i) ≡ true)
    → ((i j : ℕ) → i < l.count → j < i → alike (leg_at l i) (leg_at l j) ≡ false) → obeys l ≡ true
unfolding obeys broken_at repeats repeat_at same_at
obeys-from l few each apart =
    rw (
      le-leb l.count 128 few,
      any-nowhere (broken_at l) l.count (λ i h. rw (each i h)),
      any-nowhere (repeat_at alike (leg_at l)) l.count (λ i h. any-nowhere (same_at alike (leg_at l) i) i (λ j k. apart i j h k)),
    )
