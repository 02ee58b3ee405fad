-- Which numbers a chain of refusals gives: each test has its own, and what is chosen among them is one of them.
use Prim.Native.Nat.{ℕ, zero, suc}
use mathlib.Core.Path.{◌≡◌, refl, sym}
use mathlib.Core.List.{List, [], ◌∷◌, ◌++◌}
use mathlib.Core.Bool.{Bool, true, false, cond, ◌||◌, true≢false}
use lib.Dec.{eqb}
use Rattle.lists.specs.Refusals.{refuse, or_else, among}
use Rattle.lists.specs.Chains.{first_refusal_below}

module _ (ks : List ℕ) where
  -- the number is one of these
  pub record Given (n : ℕ) : Type 0 where
    pub is : among n ks ≡ true

  pub tested : (n : ℕ) (t : Bool) {later : ℕ} → among n ks ≡ true → Given later → Given (refuse n t later)
  tested n true p q = record { is = p }
  tested n false p q = q

  pub chosen : (t : Bool) {a b : ℕ} → Given a → Given b → Given (cond t a b)
  chosen true p q = p
  chosen false p q = q

  pub either : (a : ℕ) {b : ℕ} → Given a → Given b → Given (or_else a b)
  either zero p q = q
  either (suc a) p q = p

  pub first : (d : ℕ → ℕ) → Given 0 → ((i : ℕ) → Given (d i)) → (n : ℕ) → Given (first_refusal_below d n)
  unfolding first_refusal_below
  first d z h zero = z
  first d z h (suc n) = either (first_refusal_below d n) (first d z h n) (h n)

-- one of these is one of more
pub among-more : (n : ℕ) (ks js : List ℕ) → among n ks ≡ true → among n (ks ++ js) ≡ true
among-more n [] js h = absurd (true≢false (sym h))
among-more n (k ∷ ks) js h = go (eqb n k) h (among-more n ks js)
  where
    go : (b : Bool) → (b || among n ks) ≡ true → (among n ks ≡ true → among n (ks ++ js) ≡ true) → (b || among n (ks ++ js)) ≡ true
    go true p more = refl
    go false p more = more p
