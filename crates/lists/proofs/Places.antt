-- `any_below`, `first_below`, `repeats`, `firsts`, `row` and `joined`, one place more at a time, and of two ways to give the values that agree.
use Prim.Native.Nat.{ℕ, zero, suc, ◌+◌, ◌*◌, ◌-◌, ◌<◌, ◌≤◌}
use mathlib.Core.Path.{◌≡◌, refl, sym, ap, ◌∙◌}
use mathlib.Core.Bool.{Bool, true, false, ◌||◌, cond, true≢false}
use mathlib.Core.Logic.{◌⊎◌, inl, inr}
use mathlib.Core.List.{List, [], ◌∷◌, ◌++◌, append_assoc, append-nil}
use native.Mathlib.Omega.{arith}
use native.Mathlib.Numerals.{add-one}
use native.Mathlib.Nat.{zero-add, add-zero, add-suc, mul-zero, mul-suc, sub-zero}
use native.Mathlib.Decide.{dec_lt}
use borrow.Author.Tests.{lt-ltb, le-ltb}
use lib.ListN.{length, get_or, set, take, replicate, length-append, length-replicate, replicate-append-replicate, get_or-append}
use Rattle.std.specs.List.{list_any}
use Rattle.std.proofs.lemmas.List.{length-take, get_or-take}
use Rattle.std.proofs.lemmas.List.Folds.{list_any_more}
use lib.Seq.{get_or_at, get_or-append-add, set_at}
use Rattle.lists.specs.Places.{any_below, first_from, first_below, same_at, repeat_at, repeats, element_at, firsts, row, joined, up_to}
use Rattle.lists.proofs.Bools.{or_right, or-none, no_true}

-- ---- some place below n

pub any_none : (p : ℕ → Bool) → any_below p 0 ≡ false
unfolding any_below
any_none p = refl

pub any_next : (p : ℕ → Bool) (i : ℕ) → any_below p (i + 1) ≡ (any_below p i || p i)
unfolding any_below
any_next p i = rw add-one

-- the answer so far, where the next place passes, and where it does not
pub any_met : (p : ℕ → Bool) (i : ℕ) → p i ≡ true → true ≡ any_below p (i + 1)
any_met p i e = rw (any_next p i, e, or_right)

pub any-unmet : (p : ℕ → Bool) (i : ℕ) {b : Bool} → b ≡ any_below p i → p i ≡ false → b ≡ any_below p (i + 1)
any-unmet p i h e = rw (any_next p i, e, or-none) h

pub any-more : (p : ℕ → Bool) (i : ℕ) → any_below p i ≡ false → p i ≡ false → any_below p (i + 1) ≡ false
any-more p i h e = rw (any_next p i, h, e)

pub any-end : (p : ℕ → Bool) {n i : ℕ} → n ≡ i → any_below p i ≡ false → false ≡ any_below p n
any-end p e h = rw (e, h)

pub any_found : (p : ℕ → Bool) (n k : ℕ) → k < n → p k ≡ true → any_below p n ≡ true
unfolding any_below
any_found p zero k h e = absurd (omega arith)
any_found p (suc n) k h e = go (dec_lt k n) (any_found p n k)
  where
    go : Dec (k < n) → (k < n → p k ≡ true → any_below p n ≡ true) → (any_below p n || p n) ≡ true
    go (yes l) ih = rw (ih l e)
    go (no l) ih =
        let q : n ≡ k = omega arith in
        rw (q, e, or_right)

pub any_false : (p : ℕ → Bool) (n k : ℕ) → any_below p n ≡ false → k < n → p k ≡ false
any_false p n k h l = go (p k) refl
  where
    go : (b : Bool) → p k ≡ b → p k ≡ false
    go true e = e ∙ sym (any_found p n k l e) ∙ h
    go false e = e

-- what holds nowhere holds at no place below n
pub any-never : (p : ℕ → Bool) → ((i : ℕ) → p i ≡ false) → (n : ℕ) → any_below p n ≡ false
unfolding any_below
any-never p h zero = refl
any-never p h (suc n) = rw (any-never p h n, h n)

pub any-nowhere : (p : ℕ → Bool) (n : ℕ) → ((i : ℕ) → i < n → p i ≡ false) → any_below p n ≡ false
unfolding any_below
any-nowhere p zero h = refl
any-nowhere p (suc n) h = rw (any-nowhere p n (λ i l. h i (omega arith)), h n (omega arith))

-- a test of the elements of a list's first n places
pub any-taken : {A : Type 0} (p : A → Bool) (z : A) (l : List A) (n : ℕ) → n ≤ length l → list_any p (take n l) ≡ any_below (λ i. p (element_at z l i)) n
unfolding any_below element_at
any-taken p z l zero h = refl
any-taken p z l (suc n) h =
    ap (λ (m : ℕ). list_any p (take m l)) (sym (add-one n))
    ∙ list_any_more p l n z (omega arith)
    ∙ rw (any-taken p z l n (omega arith)) refl

-- two tests that agree below n
pub any-agree : (p p' : ℕ → Bool) (n : ℕ) → ((i : ℕ) → i < n → p i ≡ p' i) → any_below p n ≡ any_below p' n
unfolding any_below
any-agree p p' zero h = refl
any-agree p p' (suc n) h = rw (any-agree p p' n (λ i l. h i (omega arith)), h n (omega arith))

-- a test of two kinds holds somewhere exactly if one of the two does
or-shuffle : (a b c d : Bool) → ((a || b) || (c || d)) ≡ ((a || c) || (b || d))
or-shuffle true b c d = refl
or-shuffle false true true d = refl
or-shuffle false true false d = refl
or-shuffle false false c d = refl

pub any-or : (p q : ℕ → Bool) (n : ℕ) → (any_below p n || any_below q n) ≡ any_below (λ i. p i || q i) n
unfolding any_below
any-or p q zero = refl
any-or p q (suc n) = sym (or-shuffle (any_below p n) (any_below q n) (p n) (q n)) ∙ ap (λ (b : Bool). b || (p n || q n)) (any-or p q n)

-- ---- the first place below n

-- the place k is below n and passes, and none before it does
pub record FirstAt (p : ℕ → Bool) (n k : ℕ) : Type 0 where
  pub below : k < n
  pub passes : p k ≡ true
  pub none_before : any_below p k ≡ false

-- no place of a run passes
None : (ℕ → Bool) → ℕ → ℕ → Type 0
None p i k = (j : ℕ) → i ≤ j → j < k → p j ≡ false

any-below-none : (p : ℕ → Bool) (n : ℕ) → None p 0 n → any_below p n ≡ false
unfolding None
any-below-none p n h = any-nowhere p n (λ j m. h j (omega arith) m)

none_below : (p : ℕ → Bool) (n : ℕ) → any_below p n ≡ false → None p 0 n
unfolding None
none_below p n h j l m = any_false p n j h m

from-none : (p : ℕ → Bool) (i n : ℕ) → None p i (i + n) → first_from p i n ≡ i + n
unfolding first_from None
from-none p i zero h = sym (add-zero i)
from-none p i (suc n) h =
    let r : first_from p (suc i) n ≡ suc i + n = from-none p (suc i) n (λ j l m. h j (omega arith) (omega arith)) in
    rw (h i (omega arith) (omega arith)) (r ∙ omega arith)

from_found : (p : ℕ → Bool) (i n k : ℕ) → i ≤ k → k < i + n → p k ≡ true → None p i k → first_from p i n ≡ k
unfolding first_from None
from_found p i zero k l m e h = absurd (omega arith)
from_found p i (suc n) k l m e h = go (p i) refl (dec_lt i k) (λ q. from_found p (suc i) n k q (omega arith) e (λ j x y. h j (omega arith) y))
  where
    go : (b : Bool) → p i ≡ b → Dec (i < k) → (i < k → first_from p (suc i) n ≡ k) → cond (p i) i (first_from p (suc i) n) ≡ k
    go true a (yes q) r = absurd (true≢false (sym a ∙ h i (omega arith) q))
    go true a (no q) r = rw a (omega arith)
    go false a (yes q) r = rw a (r q)
    go false a (no q) r =
        let s : i ≡ k = omega arith in
        absurd (true≢false (sym e ∙ ap p (sym s) ∙ a))

-- either no place of a run passes, or there is a first that does
record Passing (p : ℕ → Bool) (i n : ℕ) : Type 0 where
  place : ℕ
  from : i ≤ place
  below : place < i + n
  passes : p place ≡ true
  before : None p i place

wider : (p : ℕ → Bool) (i k : ℕ) → p i ≡ false → None p (suc i) k → None p i k
unfolding None
wider p i k a h j l m = at (dec_lt i j)
  where
    at : Dec (i < j) → p j ≡ false
    at (yes q) = h j q m
    at (no q) =
        let s : i ≡ j = omega arith in
        ap p (sym s) ∙ a

from-cases : (p : ℕ → Bool) (i n : ℕ) → None p i (i + n) ⊎ Passing p i n
unfolding None
from-cases p i zero = inl (λ j l m. absurd (omega arith))
from-cases p i (suc n) = go (p i) refl (from-cases p (suc i) n)
  where
    go : (b : Bool) → p i ≡ b → None p (suc i) (suc i + n) ⊎ Passing p (suc i) n → None p i (i + suc n) ⊎ Passing p i (suc n)
    go true a r = inr (record { place = i; from = omega arith; below = omega arith; passes = a; before = λ j l m. absurd (omega arith) })
    go false a (inl h) = inl (λ j l m. wider p i (suc i + n) a h j l (omega arith))
    go false a (inr f) =
        inr (record { place = f.place; from = omega (arith, f.from); below = omega (arith, f.below); passes = f.passes; before = wider p i f.place a f.before })

-- a search that stops at such a place has found `first_below`
pub first-stop : (p : ℕ → Bool) (n k : ℕ) → FirstAt p n k → first_below p n ≡ k
unfolding first_below
first-stop p n k f = from_found p 0 n k (omega arith) (omega (arith, f.below)) f.passes (none_below p k f.none_before)

-- and one from the other end has, where no two places pass
pub first-only : (p : ℕ → Bool) (n k : ℕ) → k < n → p k ≡ true → ((j : ℕ) → j < n → p j ≡ true → j ≡ k) → first_below p n ≡ k
first-only p n k h e one = first-stop p n k (record { below = h; passes = e; none_before = any-nowhere p k (λ j l. no_true (λ q. omega (arith, one j (omega arith) q))) })

-- where some place passes, `first_below` is such a place
pub first_found : (p : ℕ → Bool) (n : ℕ) → any_below p n ≡ true → FirstAt p n (first_below p n)
first_found p n h = go (from-cases p 0 n)
  where
    go : None p 0 (0 + n) ⊎ Passing p 0 n → FirstAt p n (first_below p n)
    go (inl q) = absurd (true≢false (sym h ∙ any-below-none p n (rw zero-add at q)))
    go (inr q) =
        let f : FirstAt p n q.place = record { below = omega (arith, q.below); passes = q.passes; none_before = any-below-none p q.place q.before } in
        rw (first-stop p n q.place f) f

-- where none passes it is n, and whether it is below n says whether some place passes
pub first-none : (p : ℕ → Bool) (n : ℕ) → any_below p n ≡ false → first_below p n ≡ n
unfolding first_below
first-none p n h = from-none p 0 n (rw zero-add (none_below p n h)) ∙ zero-add n

pub first-most : (p : ℕ → Bool) (n : ℕ) → first_below p n ≤ n
first-most p n = go (any_below p n) refl
  where
    go : (b : Bool) → any_below p n ≡ b → first_below p n ≤ n
    go true e = let f = first_found p n e in omega (arith, f.below)
    go false e = let f = first-none p n e in omega (arith, f)

pub first_past : (p : ℕ → Bool) (n : ℕ) → n ≤ first_below p n → any_below p n ≡ false
first_past p n h = go (any_below p n) refl
  where
    go : (b : Bool) → any_below p n ≡ b → any_below p n ≡ false
    go true e = let f = first_found p n e in absurd (omega (arith, f.below))
    go false e = e

pub first_below-any : (p : ℕ → Bool) (n : ℕ) → first_below p n < n → any_below p n ≡ true
first_below-any p n h = go (any_below p n) refl
  where
    go : (b : Bool) → any_below p n ≡ b → any_below p n ≡ true
    go true e = e
    go false e = let f = first-none p n e in absurd (omega arith)

-- two tests that agree below n
from-agree : (p p' : ℕ → Bool) (i n : ℕ) → ((j : ℕ) → i ≤ j → j < i + n → p j ≡ p' j) → first_from p i n ≡ first_from p' i n
unfolding first_from
from-agree p p' i zero h = refl
from-agree p p' i (suc n) h = rw (h i (omega arith) (omega arith), from-agree p p' (suc i) n (λ j l m. h j (omega arith) (omega arith)))

pub first-agree : (p p' : ℕ → Bool) (n : ℕ) → ((i : ℕ) → i < n → p i ≡ p' i) → first_below p n ≡ first_below p' n
unfolding first_below
first-agree p p' n h = from-agree p p' 0 n (λ j l m. h j (omega arith))

-- two values are told apart alike, whatever they are and whatever tells them apart
module _ {A B : Type 0} (same : A → A → Bool) (same' : B → B → Bool) (d : ℕ → A) (d' : ℕ → B) (n : ℕ)
    (h : (i j : ℕ) → i < n → j < n → same (d i) (d j) ≡ same' (d' i) (d' j)) where
  repeat-agree : (i : ℕ) → i < n → repeat_at same d i ≡ repeat_at same' d' i
  unfolding repeat_at same_at
  repeat-agree i l = any-agree (same_at same d i) (same_at same' d' i) i (λ j m. h i j l (omega arith))

  pub repeats-agree : repeats same d n ≡ repeats same' d' n
  unfolding repeats
  repeats-agree = any-agree (repeat_at same d) (repeat_at same' d') n repeat-agree

  pub first-repeat-agree : first_below (repeat_at same d) n ≡ first_below (repeat_at same' d') n
  first-repeat-agree = first-agree (repeat_at same d) (repeat_at same' d') n repeat-agree

-- ---- the values at the places below n

module _ {A : Type 0} where
  -- two ways to give the values below n agree
  abbrev pub Agree : (ℕ → A) → (ℕ → A) → ℕ → Type 0
  Agree d d' n = (i : ℕ) → i < n → d i ≡ d' i

  -- a place of a list has its own value, whatever is taken to stand past the end
  pub element-own : (z z' : A) (l : List A) (i : ℕ) → i < length l → get_or l i z' ≡ element_at z l i
  unfolding element_at
  element-own z z' [] i h = absurd (omega arith)
  element-own z z' (a ∷ l) zero h = refl
  element-own z z' (a ∷ l) (suc i) h = element-own z z' l i (omega arith)

  -- so has one of its first n places
  pub element-taken : (z z' : A) (l : List A) (n i : ℕ) → i < length (take n l) → get_or (take n l) i z' ≡ element_at z l i
  element-taken z z' l n i h = go (dec_lt i n)
    where
      go : Dec (i < n) → get_or (take n l) i z' ≡ element_at z l i
      go (yes q) = get_or-take n l i z' q ∙ element-own z z' l i (omega (arith, h, length-take n l))
      go (no q) = absurd (omega (arith, h, length-take n l))

  pub length-firsts : (d : ℕ → A) (n : ℕ) → length (firsts d n) ≡ n
  unfolding firsts
  length-firsts d zero = refl
  length-firsts d (suc n) = rw (length-append, length-firsts d n, add-one)

  pub firsts_at : (d : ℕ → A) (n : ℕ) (i : ℕ) (z : A) → i < n → get_or (firsts d n) i z ≡ d i
  unfolding firsts
  firsts_at d zero i z h = absurd (omega arith)
  firsts_at d (suc n) i z h = go (dec_lt i n) (firsts_at d n i z)
    where
      go : Dec (i < n) → (i < n → get_or (firsts d n) i z ≡ d i) → get_or (firsts d n ++ (d n ∷ [])) i z ≡ d i
      go (yes l) ih = get_or-append (firsts d n) (d n ∷ []) z i (rw (length-firsts d n) l) ∙ ih l
      go (no l) ih =
          let q : i ≡ n = omega arith in
          rw q (get_or_at (firsts d n) (d n) [] z n (length-firsts d n))

  pub firsts-agree : (d d' : ℕ → A) (n : ℕ) → Agree d d' n → firsts d n ≡ firsts d' n
  unfolding firsts
  firsts-agree d d' zero h = refl
  firsts-agree d d' (suc n) h = rw (firsts-agree d d' n (λ i l. h i (omega arith)), h n (omega arith))

  -- a row of m places, filled from the front
  pub row-none : (m : ℕ) (z : A) (d : ℕ → A) → row m z d 0 ≡ replicate m z
  unfolding row firsts
  row-none m z d = rw sub-zero

  pub row_next : (m : ℕ) (z : A) (d : ℕ → A) (i : ℕ) → i < m → set (row m z d i) i (d i) ≡ row m z d (i + 1)
  unfolding row firsts
  row_next m z d i h =
      let e : m - i ≡ suc (m - (i + 1)) = omega arith in
      rw (e, add-one i, append_assoc) (set_at (firsts d i) z (replicate (m - suc i) z) (d i) i (length-firsts d i))

  pub row_at : (m : ℕ) (z : A) (d : ℕ → A) (n : ℕ) → Agree d (element_at z (row m z d n)) n
  unfolding row element_at
  row_at m z d n i h = sym (get_or-append (firsts d n) (replicate (m - n) z) z i (rw (length-firsts d n) h) ∙ firsts_at d n i z h)

  pub row-past : (m : ℕ) (z : A) (d : ℕ → A) (n k : ℕ) → element_at z (row m z d n) (n + k) ≡ z
  unfolding row element_at
  row-past m z d n k =
      let e : n + k ≡ length (firsts d n) + k = rw (length-firsts d n) refl in
      rw (e, get_or-append-add) (unused (m - n) k)
    where
      unused : (r i : ℕ) → get_or (replicate r z) i z ≡ z
      unused zero i = refl
      unused (suc r) zero = refl
      unused (suc r) (suc i) = unused r i

  pub row-agree : (m : ℕ) (z : A) (d d' : ℕ → A) (n : ℕ) → Agree d d' n → row m z d n ≡ row m z d' n
  unfolding row
  row-agree m z d d' n h = rw (firsts-agree d d' n h)

  pub length-row : (m : ℕ) (z : A) (d : ℕ → A) (n : ℕ) → n ≤ m → length (row m z d n) ≡ m
  unfolding row
  length-row m z d n h = simp (length-append, length-firsts, length-replicate) (omega arith)

  -- ---- lists of bytes, joined

  pub joined-none : (f : A → List ℕ) (d : ℕ → A) → joined f d 0 ≡ []
  unfolding joined
  joined-none f d = refl

  pub joined-next : (f : A → List ℕ) (d : ℕ → A) (n : ℕ) → joined f d (n + 1) ≡ joined f d n ++ f (d n)
  unfolding joined
  joined-next f d n = rw add-one

  pub joined-agree : (f : A → List ℕ) (d d' : ℕ → A) (n : ℕ) → Agree d d' n → joined f d n ≡ joined f d' n
  unfolding joined
  joined-agree f d d' zero h = refl
  joined-agree f d d' (suc n) h = rw (joined-agree f d d' n (λ i l. h i (omega arith)), h n (omega arith))

  pub length-joined : (f : A → List ℕ) (k : ℕ) → ((x : A) → length (f x) ≡ k) → (d : ℕ → A) (n : ℕ) → length (joined f d n) ≡ k * n
  unfolding joined
  length-joined f k w d zero = sym (mul-zero k)
  length-joined f k w d (suc n) = rw (length-append, w (d n), length-joined f k w d n, mul-suc)

  -- what stands past n, where each value there is z and f of it is w zeros
  pub joined-padded : (f : A → List ℕ) (w : ℕ) (z : A) (d d' : ℕ → A) (n : ℕ) → Agree d' d n → ((k : ℕ) → d' (n + k) ≡ z) → f z ≡ replicate w 0
      → (k : ℕ) → joined f d' (n + k) ≡ joined f d n ++ replicate (w * k) 0
  unfolding joined
  joined-padded f w z d d' n a p q zero = rw (add-zero, joined-agree f d' d n a, mul-zero, append-nil)
  joined-padded f w z d d' n a p q (suc k) =
      rw (add-suc, p k, q, joined-padded f w z d d' n a p q k, append_assoc, replicate-append-replicate, mul-suc)

  -- the first n of m things of w bytes each, and zeros at the places past them
  pub joined-used : (f : A → List ℕ) (w : ℕ) (z : A) → f z ≡ replicate w 0 → (d : ℕ → A) (n m : ℕ) → n ≤ m
      → joined f (up_to n z d) m ≡ joined f d n ++ replicate (w * (m - n)) 0
  unfolding up_to
  joined-used f w z q d n m h =
      let e : n + (m - n) ≡ m = omega arith in
      ap (joined f (up_to n z d)) (sym e) ∙ joined-padded f w z d (up_to n z d) n (λ i l. rw (lt-ltb i n l)) (λ k. rw (le-ltb (n + k) n (omega arith))) q (m - n)

  -- all m of them, where there are more
  pub joined-full : (f : A → List ℕ) (z : A) (d : ℕ → A) (n m : ℕ) → m ≤ n → joined f (up_to n z d) m ≡ joined f d m
  unfolding up_to
  joined-full f z d n m h = joined-agree f (up_to n z d) d m (λ i l. rw (lt-ltb i n (omega arith)))

  -- what stands where in a row of things of w bytes each
  pub joined_at : (f : A → List ℕ) (w : ℕ) → ((x : A) → length (f x) ≡ w) → (d : ℕ → A) (n i k : ℕ) → i < n → k < w → (rest : List ℕ)
      → get_or (joined f d n ++ rest) (w * i + k) 0 ≡ get_or (f (d i)) k 0
  unfolding joined
  joined_at f w h d zero i k l m rest = absurd (omega arith)
  joined_at f w h d (suc n) i k l m rest = go (dec_lt i n) (λ q. joined_at f w h d n i k q m (f (d n) ++ rest))
    where
      go : Dec (i < n) → (i < n → get_or (joined f d n ++ (f (d n) ++ rest)) (w * i + k) 0 ≡ get_or (f (d i)) k 0)
          → get_or (joined f d n ++ f (d n) ++ rest) (w * i + k) 0 ≡ get_or (f (d i)) k 0
      go (yes q) ih = rw append_assoc (ih q)
      go (no q) ih =
          let e : i ≡ n = omega arith in
          let s : w * i + k ≡ length (joined f d n) + k = rw (e, length-joined f w h d n) refl in
          rw (append_assoc, s, get_or-append-add, get_or-append (f (d n)) rest 0 k (rw (h (d n)) m))
          (ap (λ (j : ℕ). get_or (f (d j)) k 0) (sym e))
