-- Values at the places 0, 1, 2, ..: tests over the first n of them, and lists made of them. Nothing here speaks of addresses or frames.
use Rattle.std.specs.Prelude.{Bool, false, ◌||◌, cond, List, [], ◌∷◌, ◌++◌, ℕ, zero, suc, ◌-◌, ltb, get_or, replicate}

-- the test holds at some place below n
unfoldable pub any_below : (ℕ → Bool) → ℕ → Bool
any_below p zero = false
any_below p (suc n) = any_below p n || p n

-- the first of the n places from i on where the test holds, or the place past them
unfoldable pub first_from : (ℕ → Bool) → ℕ → ℕ → ℕ
first_from p i zero = i
first_from p i (suc n) = cond (p i) i (first_from p (suc i) n)

-- the first place below n where the test holds, or n
unfoldable pub first_below : (ℕ → Bool) → ℕ → ℕ
first_below p n = first_from p 0 n

module _ {A : Type 0} (same : A → A → Bool) (d : ℕ → A) where
  -- the places i and j have the same value
  unfoldable pub same_at : ℕ → ℕ → Bool
  same_at i j = same (d i) (d j)

  -- the place i has the value of an earlier one
  unfoldable pub repeat_at : ℕ → Bool
  repeat_at i = any_below (same_at i) i

  -- some place below n has the value of an earlier one
  unfoldable pub repeats : ℕ → Bool
  repeats n = any_below repeat_at n

module _ {A : Type 0} where
  -- the values at the places of a list; past its end z
  unfoldable pub element_at : A → List A → ℕ → A
  element_at z l i = get_or l i z

  -- the values at the places below n, in order
  unfoldable pub firsts : (ℕ → A) → ℕ → List A
  firsts d zero = []
  firsts d (suc n) = firsts d n ++ (d n ∷ [])

  -- a row of m places: the first n have the values of d, the unused ones z
  unfoldable pub row : ℕ → A → (ℕ → A) → ℕ → List A
  row m z d n = firsts d n ++ replicate (m - n) z

  -- the lists that f gives for the values at the places below n, joined
  unfoldable pub joined : (A → List ℕ) → (ℕ → A) → ℕ → List ℕ
  joined f d zero = []
  joined f d (suc n) = joined f d n ++ f (d n)

  -- the values at the places below n, and z at the others
  unfoldable pub up_to : ℕ → A → (ℕ → A) → ℕ → A
  up_to n z d i = cond (ltb i n) (d i) z
