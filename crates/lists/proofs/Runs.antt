-- Runs of things of any length, joined: one more stored, and what stands at its place.
use Prim.Native.Nat.{ℕ, zero, suc, ◌+◌, ◌*◌, ◌-◌, ◌<◌, ◌≤◌}
use mathlib.Core.Path.{◌≡◌, refl, sym, ap, ap₂, ◌∙◌}
use mathlib.Core.List.{List, [], ◌∷◌, ◌++◌, append_assoc, append-nil}
use native.Mathlib.Omega.{arith}
use native.Mathlib.Numerals.{add-one}
use native.Mathlib.Nat.{add-zero, add-suc, mul-suc}
use lib.ListN.{length, get_or, take, set, length-append}
use lib.Seq.{sets, take-suc, get_or-set_same, get_or-set_other}
use Rattle.lists.specs.Places.{element_at, firsts, joined}
use Rattle.lists.proofs.Places.{length-joined, joined-next, joined-agree}
use Rattle.lists.proofs.Stores.{sets-append}

-- the first n elements of a list
pub firsts-take : {A : Type 0} (z : A) (l : List A) (n : ℕ) → n ≤ length l → take n l ≡ firsts (element_at z l) n
unfolding firsts element_at
firsts-take z l zero h = refl
firsts-take z l (suc n) h = take-suc l n z h ∙ ap (λ (t : List _). t ++ (get_or l n z ∷ [])) (firsts-take z l n (omega arith))

module _ {A : Type 0} (f : A → List ℕ) (d : ℕ → A) where
  pub length-joined-next : (i : ℕ) → length (joined f d (i + 1)) ≡ length (joined f d i) + length (f (d i))
  length-joined-next i = rw (joined-next f d i) (length-append (joined f d i) (f (d i)))

  -- one more stored, in a list that has the first i of them
  pub joined-put : (l m : List ℕ) (at k i : ℕ) {x : A} → x ≡ d i → k ≡ at + length (joined f d i) → m ≡ sets l at (joined f d i)
      → sets m k (f x) ≡ sets l at (joined f d (i + 1))
  joined-put l m at k i e q h =
      ap₂ (λ (n : List ℕ) (y : A). sets n k (f y)) h e ∙ rw (joined-next f d i) (sets-append (joined f d i) l at (f (d i)) k q)

  -- the same of things of w bytes each
  pub joined-put-row : (w : ℕ) → ((x : A) → length (f x) ≡ w) → (l m : List ℕ) (at i : ℕ) {x : A} → x ≡ d i → m ≡ sets l at (joined f d i)
      → sets m (at + w * i) (f x) ≡ sets l at (joined f d (i + 1))
  joined-put-row w k l m at i e h = joined-put l m at (at + w * i) i e (ap (λ (n : ℕ). at + n) (sym (length-joined f w k d i))) h

  -- what stands after the first i of them: the next, and then some rest
  pub joined-rest : (i k : ℕ) → (rest : List ℕ) × (joined f d (i + k) ≡ joined f d i ++ rest)
  unfolding joined
  joined-rest i zero = ([], rw add-zero (sym (append-nil (joined f d i))))
  joined-rest i (suc k) =
      let r = joined-rest i k in
      (r.0 ++ f (d (i + k)), rw (add-suc, r.1) (append_assoc (joined f d i) r.0 (f (d (i + k)))))

  pub joined-at-place : (n i : ℕ) → i < n → (rest : List ℕ) × (joined f d n ≡ joined f d i ++ (f (d i) ++ rest))
  joined-at-place n i h =
      let r = joined-rest (i + 1) (n - (i + 1)) in
      let e : n ≡ i + 1 + (n - (i + 1)) = omega arith in
      (r.0, ap (joined f d) e ∙ r.1 ∙ ap (λ (x : List ℕ). x ++ r.0) (joined-next f d i) ∙ append_assoc (joined f d i) (f (d i)) r.0)

  -- the first i of them and the next are no longer than all
  pub joined-within : (n i : ℕ) → i < n → length (joined f d i) + length (f (d i)) ≤ length (joined f d n)
  joined-within n i h =
      let r = joined-at-place n i h in
      omega (arith, ap length r.1, length-append (joined f d i) (f (d i) ++ r.0), length-append (f (d i)) r.0)

  -- each at most w long
  pub joined-most : (w : ℕ) (n : ℕ) → ((i : ℕ) → i < n → length (f (d i)) ≤ w) → length (joined f d n) ≤ w * n
  joined-most w zero h = unfold joined in (omega arith)
  joined-most w (suc n) h =
      let e : length (joined f d (n + 1)) ≡ length (joined f d n) + length (f (d n)) = length-joined-next n in
      let p : length (joined f d n) ≤ w * n = joined-most w n (λ i l. h i (omega arith)) in
      let q : length (f (d n)) ≤ w = h n (omega arith) in
      let s : w * suc n ≡ w * n + w = mul-suc w n in
      rw (s, ← add-one n, e) (omega arith)

-- one element more stored past the first n, and joined
pub joined-set : {A : Type 0} (f : A → List ℕ) (z : A) (l : List A) (n : ℕ) (x : A) → n < length l
    → joined f (element_at z (set l n x)) (n + 1) ≡ joined f (element_at z l) n ++ f x
unfolding element_at
joined-set f z l n x h =
    joined-next f (element_at z (set l n x)) n
    ∙ ap₂ (λ (p q : List ℕ). p ++ q)
    (joined-agree f (element_at z (set l n x)) (element_at z l) n (λ i k. get_or-set_other l n i x z (λ e. omega arith)))
    (ap f (get_or-set_same l n x z h))
