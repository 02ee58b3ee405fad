-- How many digits a number has.
use Prim.Native.Nat.{ℕ, suc, zero, ◌+◌, ◌<◌, ◌≤◌, ◌/◌, ◌%◌}
use mathlib.Core.Bool.{Bool, true, false, cond}
use mathlib.Core.List.{List, [], ◌∷◌, ◌++◌}
use native.Mathlib.Omega.{arith}
use borrow.Author.Tests.{lt-ltb}
use lib.ListN.{length, length-append}
use lib.Dec.{ltb}
use Rattle.text.specs.Decimal.{digits}

either : (b : Bool) (n m : ℕ) (l : List ℕ) → length l ≤ m → length (cond b ((48 + n) ∷ []) (l ++ ((48 + n % 10) ∷ []))) ≤ m + 1
either true n m l h = omega arith
either false n m l h = rw length-append (omega arith)

-- one digit more than the tenth part has
one_more : (k n m : ℕ) → ((j : ℕ) → length (digits j (n / 10)) ≤ m) → length (digits k n) ≤ m + 1
unfolding digits
one_more zero n m h = omega arith
one_more (suc k) n m h = either (ltb n 10) n m (digits k (n / 10)) (h k)

-- at most as many as are asked for
pub digits-most : (k n : ℕ) → length (digits k n) ≤ k
unfolding digits
digits-most zero n = omega arith
digits-most (suc k) n = let h : length (cond (ltb n 10) ((48 + n) ∷ []) (digits k (n / 10) ++ ((48 + n % 10) ∷ []))) ≤ k + 1 = either (ltb n 10) n k (digits k (n / 10)) (digits-most k (n / 10)) in omega arith

one : (k n : ℕ) → n < 10 → length (digits k n) ≤ 1
unfolding digits
one zero n h = omega arith
one (suc k) n h = rw (lt-ltb n 10 h) (omega arith)

pub two : (k n : ℕ) → n < 100 → length (digits k n) ≤ 2
two k n h = one_more k n 1 (λ j. one j (n / 10) (omega arith))

pub three : (k n : ℕ) → n < 1000 → length (digits k n) ≤ 3
three k n h = one_more k n 2 (λ j. two j (n / 10) (omega arith))

pub four : (k n : ℕ) → n < 10000 → length (digits k n) ≤ 4
four k n h = one_more k n 3 (λ j. three j (n / 10) (omega arith))
