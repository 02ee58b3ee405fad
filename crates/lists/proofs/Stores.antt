-- Runs of stores, `lib.Seq.sets`: one after another, past the end, and what then stands where.
use Prim.Native.Nat.{ℕ, zero, suc, ◌+◌, ◌*◌, ◌-◌, ◌<◌, ◌≤◌}
use mathlib.Core.Path.{◌≡◌, refl, sym, ap, ◌∙◌}
use mathlib.Core.List.{List, [], ◌∷◌, ◌++◌, append_assoc}
use native.Mathlib.Omega.{arith}
use native.Mathlib.Numerals.{add-one}
use native.Mathlib.Nat.{zero-add, add-zero}
use lib.ListN.{length, get_or, take, drop, set, replicate, length-set, length-replicate, replicate-append-replicate, take-append-drop}
use lib.Seq.{drop-drop, sets, sets-eq, length-sets, set_out, take-suc, take_at, length-take-le, get_or-set_same, get_or-set_other}
use Rattle.lists.specs.Places.{firsts, joined, up_to}
use Rattle.lists.proofs.Places.{length-firsts, length-joined, joined-next, joined-used}

module _ {A : Type 0} where
  -- a run of stores after another is one run
  pub sets-append : (vs l : List A) (i : ℕ) (ws : List A) (k : ℕ) → k ≡ i + length vs → sets (sets l i vs) k ws ≡ sets l i (vs ++ ws)
  sets-append [] l i ws k e = rw (e, add-zero)
  sets-append (a ∷ vs) l i ws k e = sets-append vs (set l i a) (suc i) ws k (omega arith)

  -- one store more
  pub sets_more : (l : List A) (at : ℕ) (s : List A) (i : ℕ) (z : A) → i < length s → set (sets l at (take i s)) (at + i) (get_or s i z) ≡ sets l at (take (i + 1) s)
  sets_more l at s i z h =
      rw (add-one, take-suc s i z h)
      (sets-append (take i s) l at (get_or s i z ∷ []) (at + i) (ap (λ (k : ℕ). at + k) (sym (length-take-le i s (omega arith)))))

  -- stores past the end change nothing, so that those that fit are all
  pub sets-past : (vs l : List A) (i : ℕ) → length l ≤ i → sets l i vs ≡ l
  sets-past [] l i h = refl
  sets-past (a ∷ vs) l i h = rw (set_out l i a h) (sets-past vs l (suc i) (omega arith))

  pub sets-cut : (l : List A) (at : ℕ) (vs : List A) (n : ℕ) → n ≤ length vs → length l ≤ at + n → sets l at (take n vs) ≡ sets l at vs
  sets-cut l at vs n h k =
      let e : length (take n vs) ≡ n = length-take-le n vs h in
      sym (ap (sets l at) (sym (take-append-drop n vs))
      ∙ sym (sets-append (take n vs) l at (drop n vs) (at + n) (rw e refl))
      ∙ sets-past (drop n vs) (sets l at (take n vs)) (at + n) (rw length-sets k))

  -- a part of a list, with other values in its place
  pub sets-part : (l vs new : List A) (at k : ℕ) → new ≡ vs → length vs ≡ k → at + k ≤ length l → take at l ++ (new ++ drop k (drop at l)) ≡ sets l at vs
  sets-part l vs new at k e n h =
      let past : drop k (drop at l) ≡ drop (at + length vs) l = drop-drop k at l ∙ ap (λ (m : ℕ). drop (at + m) l) (sym n) in
      rw (e, past) (sym (sets-eq vs l at (omega arith) ∙ append_assoc (take at l) vs (drop (at + length vs) l)))

  -- what was stored from the front stands there
  pub sets-front : (l vs : List A) → length vs ≤ length l → sets l 0 vs ≡ vs ++ drop (length vs) l
  sets-front l vs h = sets-eq vs l 0 (omega arith) ∙ rw zero-add

  pub taken-front : (l vs : List A) (n : ℕ) → n ≡ length vs → n ≤ length l → take n (sets l 0 vs) ≡ vs
  taken-front l vs n e h = rw (sets-front l vs (omega arith)) (take_at vs (drop (length vs) l) n (sym e))

-- a row of things of k bytes each, one more
pub joined-stored : {A : Type 0} (f : A → List ℕ) (k : ℕ) → ((x : A) → length (f x) ≡ k) → (l : List ℕ) (at : ℕ) (d : ℕ → A) (i : ℕ)
    → sets (sets l at (joined f d i)) (at + k * i) (f (d i)) ≡ sets l at (joined f d (i + 1))
joined-stored f k w l at d i =
    rw (joined-next f d i) (sets-append (joined f d i) l at (f (d i)) (at + k * i) (rw (length-joined f k w d i) refl))

-- the first n of m such things, and zeros past them, where f gives zeros for z
pub joined-zeros : {A : Type 0} (f : A → List ℕ) (w : ℕ) → ((x : A) → length (f x) ≡ w) → (z : A) → f z ≡ replicate w 0 → (l : List ℕ) (at : ℕ) (d : ℕ → A) (n m : ℕ) → n ≤ m
    → sets (sets l at (joined f d n)) (at + w * n) (replicate (w * (m - n)) 0) ≡ sets l at (joined f (up_to n z d) m)
joined-zeros f w k z q l at d n m h =
    sets-append (joined f d n) l at (replicate (w * (m - n)) 0) (at + w * n) (rw (length-joined f w k d n) refl)
    ∙ ap (sets l at) (sym (joined-used f w z q d n m h))

-- values stored from a place on, one more
pub firsts-stored : {A : Type 0} (l : List A) (at : ℕ) (d : ℕ → A) (i : ℕ) → set (sets l at (firsts d i)) (at + i) (d i) ≡ sets l at (firsts d (i + 1))
unfolding firsts
firsts-stored l at d i = rw add-one (sets-append (firsts d i) l at (d i ∷ []) (at + i) (rw (length-firsts d i) refl))

-- n times one value: one store more, and those that fit are all
module _ {A : Type 0} (x : A) where
  pub same_more : (l : List A) (at i : ℕ) → set (sets l at (replicate i x)) (at + i) x ≡ sets l at (replicate (i + 1) x)
  same_more l at i =
      sets-append (replicate i x) l at (x ∷ []) (at + i) (rw length-replicate refl) ∙ ap (sets l at) (replicate-append-replicate i 1 x)

  pub same-cut : (l : List A) (at n m : ℕ) → n ≤ m → length l ≤ at + n → sets l at (replicate n x) ≡ sets l at (replicate m x)
  same-cut l at n m h k =
      let e : n + (m - n) ≡ m = omega arith in
      sym (ap (λ (j : ℕ). sets l at (replicate j x)) (sym e)
      ∙ ap (sets l at) (sym (replicate-append-replicate n (m - n) x))
      ∙ sym (sets-append (replicate n x) l at (replicate (m - n) x) (at + n) (rw length-replicate refl))
      ∙ sets-past (replicate (m - n) x) (sets l at (replicate n x)) (at + n) (rw length-sets k))

-- what stands where after a run of stores
module _ {A : Type 0} (z : A) where
  pub sets-before : (vs l : List A) (i j : ℕ) → j < i → get_or (sets l i vs) j z ≡ get_or l j z
  sets-before [] l i j h = refl
  sets-before (a ∷ vs) l i j h = sets-before vs (set l i a) (suc i) j (omega arith) ∙ get_or-set_other l i j a z (λ e. omega arith)

  pub sets-after : (vs l : List A) (i j : ℕ) → i + length vs ≤ j → get_or (sets l i vs) j z ≡ get_or l j z
  sets-after [] l i j h = refl
  sets-after (a ∷ vs) l i j h = sets-after vs (set l i a) (suc i) j (omega arith) ∙ get_or-set_other l i j a z (λ e. omega arith)

  pub sets-within : (vs l : List A) (i k : ℕ) → k < length vs → i + length vs ≤ length l → get_or (sets l i vs) (i + k) z ≡ get_or vs k z
  sets-within [] l i k h m = absurd (omega arith)
  sets-within (a ∷ vs) l i zero h m = rw add-zero (sets-before vs (set l i a) (suc i) i (omega arith) ∙ get_or-set_same l i a z (omega arith))
  sets-within (a ∷ vs) l i (suc k) h m =
      let e : i + suc k ≡ suc i + k = omega arith in
      rw e (sets-within vs (set l i a) (suc i) k (omega arith) (rw length-set (omega arith)))
