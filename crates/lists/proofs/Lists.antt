-- A loop over an array that counts, changes or moves its elements, at place i: what it has done, and what is left.
use Prim.Native.Nat.{ℕ, zero, suc, ◌+◌, ◌≤◌, ◌<◌}
use mathlib.Core.Path.{◌≡◌, refl, sym, ap, subst, ◌∙◌}
use mathlib.Core.Bool.{Bool, true, false, cond}
use mathlib.Core.List.{List, [], ◌∷◌, ◌++◌, map, map-append}
use native.Mathlib.Nat.{le_of_suc-le-suc, not-suc-le-zero, add-zero}
use native.Mathlib.Numerals.{add-one}
use native.Mathlib.Omega.{arith}
use lib.ListN.{length, get_or, take, drop, set, length-map, take-append-drop}
use lib.Seq.{drop-cons, set_at, append_snoc, get_or-append-add, get_or-drop, take-suc, length-take-le}
use Rattle.lists.specs.Lists.{how_many, without}

-- How many of the first i elements pass, one more at a time.
module _ {A : Type 0} (p : A → Bool) where
  pub many-none : (xs : List A) → how_many p (take 0 xs) ≡ 0
  unfolding how_many
  many-none xs = refl

  pub many-first : (n : ℕ) (xs : List A) → how_many p (take n xs) ≤ n
  unfolding how_many
  many-first zero xs = omega arith
  many-first (suc n) [] = omega arith
  many-first (suc n) (x ∷ xs) = go (p x) (many-first n xs)
    where
      go : (b : Bool) {k : ℕ} → k ≤ n → cond b (suc k) k ≤ suc n
      go true h = omega arith
      go false h = omega arith

  many-append : (xs ys : List A) → how_many p (xs ++ ys) ≡ how_many p xs + how_many p ys
  unfolding how_many
  many-append [] ys = omega arith
  many-append (x ∷ xs) ys = go (p x) _ _ _ (many-append xs ys)
    where
      go : (b : Bool) (k m n : ℕ) → k ≡ m + n → cond b (suc k) k ≡ cond b (suc m) m + n
      go true k m n h = omega arith
      go false k m n h = omega arith

  pub many-next : (xs : List A) (i : ℕ) (d : A) → i < length xs → how_many p (take i xs) + cond (p (get_or xs i d)) 1 0 ≡ how_many p (take (i + 1) xs)
  unfolding how_many
  many-next xs i d h = rw (add-one, take-suc xs i d, many-append) refl

-- ---- loops that store: p is what was stored, `drop i l` what is left

module _ {A : Type 0} where
  -- one store more
  pub store-next : (p l : List A) (i : ℕ) (a : A) → length p ≡ i → i < length l → set (p ++ drop i l) i a ≡ (p ++ (a ∷ [])) ++ drop (i + 1) l
  store-next p l i a e h =
      ap (λ (t : List A). set (p ++ t) i a) (drop-cons l i a h)
      ∙ set_at p (get_or l i a) (drop (suc i) l) a i e
      ∙ sym (append_snoc p a (drop (suc i) l))
      ∙ ap (λ (n : ℕ). (p ++ (a ∷ [])) ++ drop n l) (sym (add-one i))

  -- what is not yet stored over is read as it was
  pub read_next : (p l : List A) (i k : ℕ) (z : A) → length p ≡ i → get_or (p ++ drop i l) (i + k) z ≡ get_or l (i + k) z
  read_next p l i k z e =
      subst (λ (n : ℕ). get_or (p ++ drop i l) (n + k) z ≡ get_or l (i + k) z) e
      (get_or-append-add p (drop i l) k z ∙ get_or-drop i l k z)

  pub take-one-more : (l : List A) (i : ℕ) (z : A) → i < length l → take (i + 1) l ≡ take i l ++ (get_or l i z ∷ [])
  take-one-more l i z h = ap (λ (n : ℕ). take n l) (add-one i) ∙ take-suc l i z h

  -- the list without one element
  pub without-snoc : (k : ℕ) (xs : List A) (y : A) → k < length xs → without k (xs ++ (y ∷ [])) ≡ without k xs ++ (y ∷ [])
  unfolding without
  without-snoc k [] y h = absurd (not-suc-le-zero h)
  without-snoc zero (x ∷ xs) y h = refl
  without-snoc (suc k) (x ∷ xs) y h = ap (λ (t : List A). x ∷ t) (without-snoc k xs y (le_of_suc-le-suc h))

  pub length_without : (k : ℕ) (xs : List A) → k < length xs → suc (length (without k xs)) ≡ length xs
  unfolding without
  length_without k [] h = absurd (not-suc-le-zero h)
  length_without zero (x ∷ xs) h = refl
  length_without (suc k) (x ∷ xs) h = ap suc (length_without k xs (le_of_suc-le-suc h))

  pub without-first : (k : ℕ) (l : List A) → k < length l → without k (take (suc k) l) ≡ take k l
  unfolding without
  without-first k [] h = absurd (not-suc-le-zero h)
  without-first zero (x ∷ xs) h = refl
  without-first (suc k) (x ∷ xs) h = ap (λ (t : List A). x ∷ t) (without-first k xs (le_of_suc-le-suc h))

pub map-one-more : {A B : Type 0} (f : A → B) (l : List A) (i : ℕ) (z : A) → i < length l → map f (take (i + 1) l) ≡ map f (take i l) ++ (f (get_or l i z) ∷ [])
map-one-more f l i z h = ap (map f) (take-one-more l i z h) ∙ map-append f (take i l) (get_or l i z ∷ [])

-- The turns of three loops that store.
module _ {A : Type 0} (l : List A) where
  read_at : (p : List A) (i : ℕ) (z : A) → length p ≡ i → get_or (p ++ drop i l) i z ≡ get_or l i z
  read_at p i z e =
      subst (λ (n : ℕ). get_or (p ++ drop i l) n z ≡ get_or l n z) (add-zero i) (read_next p l i 0 z e)

  -- each element is replaced by f of it
  module _ (f : A → A) (i : ℕ) (z : A) (h : i < length l) where
    mapped-long : length (map f (take i l)) ≡ i
    mapped-long = length-map (take i l) f ∙ length-take-le i l (omega arith)

    pub map_read : get_or (map f (take i l) ++ drop i l) i z ≡ get_or l i z
    map_read = read_at (map f (take i l)) i z mapped-long

    pub map-store : set (map f (take i l) ++ drop i l) i (f (get_or l i z)) ≡ map f (take (i + 1) l) ++ drop (i + 1) l
    map-store =
        store-next (map f (take i l)) l i (f (get_or l i z)) mapped-long h
        ∙ ap (λ (t : List A). t ++ drop (i + 1) l) (sym (map-one-more f l i z h))

  -- the elements after place k move down one
  module _ (k : ℕ) where
    pub close-start : k < length l → l ≡ without k (take (k + 1) l) ++ drop k l
    close-start h =
        sym (ap (λ (n : ℕ). without k (take n l) ++ drop k l) (add-one k) ∙ ap (λ (t : List A). t ++ drop k l) (without-first k l h) ∙ take-append-drop k l)

    module _ (i : ℕ) (h : k ≤ i) (m : i < length l) where
      close-long : length (without k (take (i + 1) l)) ≡ i
      close-long =
          let e : length (take (i + 1) l) ≡ i + 1 = length-take-le (i + 1) l (omega arith) in
          let q : suc (length (without k (take (i + 1) l))) ≡ length (take (i + 1) l) = length_without k (take (i + 1) l) (rw e (omega arith)) in
          omega arith

      pub close-read : (z : A) → get_or (without k (take (i + 1) l) ++ drop i l) (i + 1) z ≡ get_or l (i + 1) z
      close-read z = read_next (without k (take (i + 1) l)) l i 1 z close-long

      pub close-last : (a : A) → set (without k (take (i + 1) l) ++ drop i l) i a ≡ without k (take (i + 1) l) ++ a ∷ drop (i + 1) l
      close-last a =
          store-next (without k (take (i + 1) l)) l i a close-long m
          ∙ append_snoc (without k (take (i + 1) l)) a (drop (i + 1) l)

      pub close-store : (z : A) → i + 1 < length l → set (without k (take (i + 1) l) ++ drop i l) i (get_or l (i + 1) z) ≡ without k (take (i + 1 + 1) l) ++ drop (i + 1) l
      close-store z n =
          let e : length (take (i + 1) l) ≡ i + 1 = length-take-le (i + 1) l (omega arith) in
          store-next (without k (take (i + 1) l)) l i (get_or l (i + 1) z) close-long m
          ∙ ap (λ (t : List A). t ++ drop (i + 1) l)
          (sym (ap (without k) (take-one-more l (i + 1) z n) ∙ without-snoc k (take (i + 1) l) (get_or l (i + 1) z) (rw e (omega arith))))

-- ---- what then stands where

module _ {A : Type 0} (z : A) where
  pub without-before : (k i : ℕ) (xs : List A) → i < k → get_or (without k xs) i z ≡ get_or xs i z
  unfolding without
  without-before zero i xs h = absurd (omega arith)
  without-before (suc k) i [] h = refl
  without-before (suc k) zero (x ∷ xs) h = refl
  without-before (suc k) (suc i) (x ∷ xs) h = without-before k i xs (le_of_suc-le-suc h)

  pub without-after : (k i : ℕ) (xs : List A) → k ≤ i → get_or (without k xs) i z ≡ get_or xs (suc i) z
  unfolding without
  without-after k i [] h = refl
  without-after zero i (x ∷ xs) h = refl
  without-after (suc k) zero (x ∷ xs) h = absurd (omega arith)
  without-after (suc k) (suc i) (x ∷ xs) h = without-after k i xs (le_of_suc-le-suc h)

  -- the first n elements changed by f, the others as they were
  module _ (f : A → A) where
    pub mapped_at : (n i : ℕ) (xs : List A) → i < n → n ≤ length xs → get_or (map f (take n xs) ++ drop n xs) i z ≡ f (get_or xs i z)
    mapped_at zero i xs h k = absurd (omega arith)
    mapped_at (suc n) i [] h k = absurd (omega arith)
    mapped_at (suc n) zero (x ∷ xs) h k = refl
    mapped_at (suc n) (suc i) (x ∷ xs) h k = mapped_at n i xs (le_of_suc-le-suc h) (le_of_suc-le-suc k)

    pub mapped-past : (n i : ℕ) (xs : List A) → n ≤ i → n ≤ length xs → get_or (map f (take n xs) ++ drop n xs) i z ≡ get_or xs i z
    mapped-past zero i xs h k = refl
    mapped-past (suc n) i [] h k = absurd (omega arith)
    mapped-past (suc n) zero (x ∷ xs) h k = absurd (omega arith)
    mapped-past (suc n) (suc i) (x ∷ xs) h k = mapped-past n i xs (le_of_suc-le-suc h) (le_of_suc-le-suc k)
