-- Rows of things of w bytes each, where only the first n places are used: what stands at a place, and the bytes that they were taken from.
use Prim.Native.Nat.{ℕ, zero, suc, ◌+◌, ◌*◌, ◌-◌, ◌<◌, min}
use mathlib.Core.Path.{◌≡◌, sym, ap, ap₂, ◌∙◌}
use mathlib.Core.List.{List, ◌++◌, append-nil}
use native.Mathlib.Nat.{mul-zero, mul-suc}
use native.Mathlib.Decide.{dec_lt}
use native.Mathlib.Omega.{arith}
use lib.ListN.{length, take, drop, replicate}
use lib.Seq.{sets, take_all, take-add, drop-drop}
use borrow.Author.Tests.{lt-ltb, le-ltb}
use Rattle.lists.specs.Places.{element_at, row, joined, up_to}
use Rattle.lists.proofs.Places.{joined-agree, joined-used}
use Rattle.lists.proofs.Runs.{firsts-take}
use Rattle.lists.proofs.Stores.{joined-zeros}

-- a whole row
pub row-whole : {A : Type 0} (m : ℕ) (z : A) (l : List A) → length l ≡ m → row m z (element_at z l) m ≡ l
unfolding row
row-whole m z l h =
    let e : m - m ≡ 0 = omega arith in
    ap₂ (λ (x : List _) (k : ℕ). x ++ replicate k z) (sym (firsts-take z l m (omega arith)) ∙ take_all m l (omega arith)) e
    ∙ append-nil l

module _ {A : Type 0} (f : A → List ℕ) (w : ℕ) where
  -- the places below the count n, all m of them where it is more
  pub joined-least : (z : A) (d : ℕ → A) (n m : ℕ) → joined f (up_to n z d) m ≡ joined f (up_to (min n m) z d) m
  unfolding up_to
  joined-least z d n m = joined-agree f (up_to n z d) (up_to (min n m) z d) m (λ i l. same i l (dec_lt i n))
    where
      same : (i : ℕ) → i < m → Dec (i < n) → up_to n z d i ≡ up_to (min n m) z d i
      same i l (yes h) = rw (lt-ltb i n h, lt-ltb i (min n m) (omega arith))
      same i l (no h) = rw (le-ltb i n (omega arith), le-ltb i (min n m) (omega arith))

  -- stored, with zeros after them: k is how many are stored
  pub joined-stored : ((x : A) → length (f x) ≡ w) → (z : A) → f z ≡ replicate w 0 → (l : List ℕ) (at : ℕ) (d : ℕ → A) (n m : ℕ) {k : ℕ} → k ≡ min n m
      → sets (sets l at (joined f d k)) (at + w * k) (replicate (w * (m - k)) 0) ≡ sets l at (joined f (up_to n z d) m)
  joined-stored long z q l at d n m e = rw (e, joined-least z d n m) (joined-zeros f w long z q l at d (min n m) m (omega arith))

  -- and zeros at the others
  pub joined-counted : (z : A) → f z ≡ replicate w 0 → (d : ℕ → A) (n m : ℕ) → joined f (up_to n z d) m ≡ joined f d (min n m) ++ replicate (w * (m - min n m)) 0
  joined-counted z q d n m = joined-least z d n m ∙ joined-used f w z q d (min n m) m (omega arith)

  -- n of them, each of the w bytes that stand at its place
  pub joined-part : (d : ℕ → A) (b : List ℕ) (at n : ℕ) → ((i : ℕ) → i < n → f (d i) ≡ take w (drop (at + w * i) b)) → joined f d n ≡ take (w * n) (drop at b)
  unfolding joined
  joined-part d b at zero h = rw mul-zero
  joined-part d b at (suc n) h =
      ap₂ (λ (x y : List ℕ). x ++ y) (joined-part d b at n (λ i l. h i (omega arith))) (h n (omega arith) ∙ ap (take w) (sym (drop-drop (w * n) at b)))
      ∙ sym (take-add (w * n) w (drop at b))
      ∙ ap (λ (k : ℕ). take k (drop at b)) (sym (mul-suc w n))
