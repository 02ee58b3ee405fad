-- A place more in one set of a table.
use mathlib.Core.Path.{◌≡◌, refl, sym, ◌∙◌, ap, subst}
use mathlib.Core.Logic.{◌⊎◌, inl, inr}
use mathlib.Core.Bool.{true, false}
use mathlib.Core.List.{List}
use Prim.Native.Nat.{ℕ, ◌^◌, ◌<◌, ◌≤◌}
use native.Mathlib.Omega.{arith}
use borrow.Author.Tests.{eqb-true, eqb-false, eq-eqb}
use lib.Bits.{bit_or}
use lib.Dec.{eqb}
use lib.ListN.{get_or, length, length-set}
use lib.Seq.{get_or-set_same, get_or-set_other}
use Rattle.route.proofs.Tests.{either}
use Rattle.route_links.specs.Sets.{has}
use Rattle.route_links.specs.Private.{alone, put_in}
use Rattle.route_links.proofs.Digits.{has-alone, has_left, has_right, has_either, or-small, alone-small}

module _ (t : List ℕ) (p k : ℕ) where
  pub put-length : length (put_in t p k) ≡ length t
  unfolding put_in
  put-length = length-set t p (bit_or (get_or t p 0) (alone k))

  pub put_other : (q : ℕ) → (q ≡ p → ⊥) → get_or (put_in t p k) q 0 ≡ get_or t q 0
  unfolding put_in
  put_other q h = get_or-set_other t p q (bit_or (get_or t p 0) (alone k)) 0 h

  module _ (inside : p < length t) (small : k < 48) where
    here : get_or (put_in t p k) p 0 ≡ bit_or (get_or t p 0) (alone k)
    unfolding put_in
    here = get_or-set_same t p (bit_or (get_or t p 0) (alone k)) 0 inside

    pub put_small : (m : ℕ) → k < m → m ≤ 64 → (n : ℕ) → get_or t n 0 < 2 ^ m → get_or (put_in t p k) n 0 < 2 ^ m
    put_small m low high n w = go (either (eqb n p))
      where
        go : (eqb n p ≡ true) ⊎ (eqb n p ≡ false) → get_or (put_in t p k) n 0 < 2 ^ m
        go (inl e) =
            let q : n ≡ p = eqb-true n p e in
            let v : get_or t p 0 < 2 ^ m = subst (λ (z : ℕ). get_or t z 0 < 2 ^ m) q w in
            subst (λ (z : ℕ). get_or (put_in t p k) z 0 < 2 ^ m) (sym q)
            (subst (λ (z : ℕ). z < 2 ^ m) (sym here) (or-small m (get_or t p 0) (alone k) v (alone-small k m low high)))
        go (inr e) = subst (λ (z : ℕ). z < 2 ^ m) (sym (put_other n (eqb-false n p e))) w

    pub put_keeps : (q j : ℕ) → has (get_or t q 0) j ≡ true → has (get_or (put_in t p k) q 0) j ≡ true
    put_keeps q j h = go (either (eqb q p))
      where
        go : (eqb q p ≡ true) ⊎ (eqb q p ≡ false) → has (get_or (put_in t p k) q 0) j ≡ true
        go (inl e) =
            let z : q ≡ p = eqb-true q p e in
            subst (λ (r : ℕ). has (get_or (put_in t p k) r 0) j ≡ true) (sym z)
            (ap (λ (w : ℕ). has w j) here ∙ has_left (get_or t p 0) (alone k) j (subst (λ (r : ℕ). has (get_or t r 0) j ≡ true) z h))
        go (inr e) = ap (λ (w : ℕ). has w j) (put_other q (eqb-false q p e)) ∙ h

    one : (j : ℕ) → has (alone k) j ≡ eqb j k
    one j = has-alone k j (omega arith)

    pub put_has : has (get_or (put_in t p k) p 0) k ≡ true
    put_has = ap (λ (w : ℕ). has w k) here ∙ has_right (get_or t p 0) (alone k) k (one k ∙ eq-eqb k k refl)

    pub put-was : (q j : ℕ) → has (get_or (put_in t p k) q 0) j ≡ true → (has (get_or t q 0) j ≡ true) ⊎ ((q ≡ p) × (j ≡ k))
    put-was q j h = go (either (eqb q p))
      where
        go : (eqb q p ≡ true) ⊎ (eqb q p ≡ false) → (has (get_or t q 0) j ≡ true) ⊎ ((q ≡ p) × (j ≡ k))
        go (inr e) = inl (ap (λ (w : ℕ). has w j) (sym (put_other q (eqb-false q p e))) ∙ h)
        go (inl e) = split (has_either (get_or t p 0) (alone k) j g)
          where
            z : q ≡ p
            z = eqb-true q p e

            g : has (bit_or (get_or t p 0) (alone k)) j ≡ true
            g = ap (λ (w : ℕ). has w j) (sym here) ∙ subst (λ (r : ℕ). has (get_or (put_in t p k) r 0) j ≡ true) z h

            split : (has (get_or t p 0) j ≡ true) ⊎ (has (alone k) j ≡ true) → (has (get_or t q 0) j ≡ true) ⊎ ((q ≡ p) × (j ≡ k))
            split (inl b) = inl (subst (λ (r : ℕ). has (get_or t r 0) j ≡ true) (sym z) b)
            split (inr b) = inr (z, eqb-true j k (sym (one j) ∙ b))
