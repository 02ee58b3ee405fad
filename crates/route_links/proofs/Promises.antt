-- A net has one table: a word is known by its digits, and a link's number by an end that it leads on from.
use mathlib.Core.Path.{◌≡◌, refl, sym, ◌∙◌, subst}
use mathlib.Core.Logic.{◌⊎◌, inl, inr}
use mathlib.Core.Bool.{true, false}
use mathlib.Core.Option.{Option, none, some}
use mathlib.Core.List.{List, Memᴰ}
use Prim.Native.Nat.{ℕ, zero, suc, ◌+◌, ◌-◌, ◌/◌, ◌%◌, ◌^◌, ◌<◌}
use native.Mathlib.Omega.{arith}
use native.Mathlib.Nat.{pow-succ'}
use borrow.Author.Tests.{eqb-true, eqb-false, ltb-true, ltb-false}
use lib.Dec.{eqb, ltb}
use lib.ListN.{get_or}
use lib.Seq.{ext_get_or}
use Rattle.lists.specs.Places.{any_below}
use Rattle.lists.proofs.Bools.{both-same, both_ways}
use Rattle.lists.proofs.Places.{any_false, first_found}
use Rattle.route.specs.Route.{Net}
use Rattle.route.proofs.Tests.{either}
use Rattle.route_links.specs.Sets.{has, places_in, SetOf}
use Rattle.route_links.specs.ByNode.{other_than, leads_out, ByNode}
use Rattle.route_links.specs.Promises.{OneTable}
use Rattle.route_links.proofs.Digits.{has-suc, has-low, has-past}
use Rattle.route_links.proofs.Places.{where-has, has-where}

-- ---- words

-- the same lowest digit
same_low : (w v : ℕ) → has w 0 ≡ has v 0 → w % 2 ≡ v % 2
same_low w v e = go (either (eqb (w % 2) 1)) (either (eqb (v % 2) 1))
  where
    h : eqb (w % 2) 1 ≡ eqb (v % 2) 1
    h = sym (has-low w) ∙ e ∙ has-low v

    go : (eqb (w % 2) 1 ≡ true) ⊎ (eqb (w % 2) 1 ≡ false) → (eqb (v % 2) 1 ≡ true) ⊎ (eqb (v % 2) 1 ≡ false) → w % 2 ≡ v % 2
    go (inl p) (inl q) = eqb-true (w % 2) 1 p ∙ sym (eqb-true (v % 2) 1 q)
    go (inl p) (inr q) = absurd (both_ways (sym h ∙ p) q)
    go (inr p) (inl q) = absurd (both_ways (h ∙ q) p)
    go (inr p) (inr q) =
        let x = eqb-false (w % 2) 1 p in
        let y = eqb-false (v % 2) 1 q in
        omega (arith, x, y)

words-one : (k w v : ℕ) → w < 2 ^ k → v < 2 ^ k → ((i : ℕ) → has w i ≡ has v i) → w ≡ v
words-one zero w v a b h = omega arith
words-one (suc k) w v a b h =
    let p = pow-succ' 2 k in
    let l = same_low w v (h 0) in
    let r : w / 2 ≡ v / 2 = words-one k (w / 2) (v / 2) (omega (arith, p)) (omega (arith, p)) (λ i. sym (has-suc w i) ∙ h (suc i) ∙ has-suc v i) in
    omega (arith, l, r)

module _ (l : List ℕ) (w v : ℕ) (p : SetOf l w) (q : SetOf l v) where
  below : (i : ℕ) → has w i ≡ true → i < 48
  below i e = go (either (ltb i 48))
    where
      go : (ltb i 48 ≡ true) ⊎ (ltb i 48 ≡ false) → i < 48
      go (inl b) = ltb-true i 48 b
      go (inr b) = absurd (both_ways e (has-past 48 w i p.small (ltb-false i 48 b)))

  member : (i : ℕ) → has w i ≡ true → has v i ≡ true
  unfolding places_in
  member i e =
      has-where (has v) 0 48 i (subst (λ m. Memᴰ i m) (p.places ∙ sym q.places) (where-has (has w) 0 48 i (omega arith) (let b = below i e in omega arith) e))

sets-one : (l : List ℕ) (w v : ℕ) → SetOf l w → SetOf l v → w ≡ v
sets-one l w v p q = words-one 48 w v p.small q.small (λ i. both-same (has w i) (has v i) (member l w v p q i) (member l v w q p i))

-- ---- the table, row by row

module _ (G : Net) (t u : List ℕ) (T : ByNode G t) (U : ByNode G u) where
  other : (a i : ℕ) → leads_out G a i ≡ true → other_than a (G.far i a) ≡ true
  unfolding leads_out
  other a i e = e

  sum_one : (i : ℕ) → i < 48 → get_or t (32 + i) 0 ≡ get_or u (32 + i) 0
  sum_one i h = go (either (any_below (λ a. leads_out G a i) 16))
    where
      at : (a : ℕ) → a < 16 → leads_out G a i ≡ true → (o : Option ℕ) → G.far i a ≡ o → other_than a o ≡ true → get_or t (32 + i) 0 ≡ get_or u (32 + i) 0
      at a l e none q k = absurd (both_ways k refl)
      at a l e (some f) q k = T.sum i a f l q e ∙ sym (U.sum i a f l q e)

      go : (any_below (λ a. leads_out G a i) 16 ≡ true) ⊎ (any_below (λ a. leads_out G a i) 16 ≡ false) → get_or t (32 + i) 0 ≡ get_or u (32 + i) 0
      go (inl b) = let w = first_found (λ a. leads_out G a i) 16 b in at _ w.below w.passes (G.far i _) refl (other _ i w.passes)
      go (inr b) =
          let none : (a : ℕ) → a < 16 → leads_out G a i ≡ false = λ a l. any_false (λ a. leads_out G a i) 16 a b l in
          T.unused i none h ∙ sym (U.unused i none h)

  place : (n : ℕ) → n < 97 → get_or t n 0 ≡ get_or u n 0
  place n h = row (either (ltb n 16)) (either (ltb n 32)) (either (ltb n 80)) (either (ltb n 81))
    where
      row : (ltb n 16 ≡ true) ⊎ (ltb n 16 ≡ false) → (ltb n 32 ≡ true) ⊎ (ltb n 32 ≡ false) → (ltb n 80 ≡ true) ⊎ (ltb n 80 ≡ false)
          → (ltb n 81 ≡ true) ⊎ (ltb n 81 ≡ false) → get_or t n 0 ≡ get_or u n 0
      row (inl a) b c d = sets-one _ _ _ (T.into n (ltb-true n 16 a)) (U.into n (ltb-true n 16 a))
      row (inr a) (inl b) c d =
          let x = ltb-false n 16 a in
          let y = ltb-true n 32 b in
          let e : 16 + (n - 16) ≡ n = omega (arith, x) in
          let l : n - 16 < 16 = omega (arith, x, y) in
          subst (λ (m : ℕ). get_or t m 0 ≡ get_or u m 0) e (sets-one _ _ _ (T.out (n - 16) l) (U.out (n - 16) l))
      row (inr a) (inr b) (inl c) d =
          let x = ltb-false n 32 b in
          let y = ltb-true n 80 c in
          let e : 32 + (n - 32) ≡ n = omega (arith, x) in
          subst (λ (m : ℕ). get_or t m 0 ≡ get_or u m 0) e (sum_one (n - 32) (omega (arith, x, y)))
      row (inr a) (inr b) (inr c) (inl d) =
          let x = ltb-false n 80 c in
          let y = ltb-true n 81 d in
          let e : 80 ≡ n = omega (arith, x, y) in
          subst (λ (m : ℕ). get_or t m 0 ≡ get_or u m 0) e (T.goal ∙ sym U.goal)
      row (inr a) (inr b) (inr c) (inr d) =
          let x = ltb-false n 81 d in
          let e : 81 + (n - 81) ≡ n = omega (arith, x) in
          let l : n - 81 < 16 = omega (arith, x, h) in
          subst (λ (m : ℕ). get_or t m 0 ≡ get_or u m 0) e (sets-one _ _ _ (T.from (n - 81) l) (U.from (n - 81) l))

pub table-one : OneTable
table-one G t u T U = ext_get_or 0 t u (T.size ∙ sym U.size) (λ n h. place G t u T U n (let s = T.size in omega (arith, s, h)))
