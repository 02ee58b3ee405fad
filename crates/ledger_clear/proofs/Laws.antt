-- Laws of the call's definitions, over plain values: one for each way that the code returns.
use Prim.Native.Nat.{ℕ, zero, suc, ◌+◌, ◌<◌, ◌≤◌, ◌-◌}
use mathlib.Core.Path.{◌≡◌, refl, sym, ap, ap₂, ◌∙◌}
use native.Mathlib.Omega.{arith}
use mathlib.Core.List.{List, [], ◌∷◌, ◌++◌}
use lib.ListN.{length, get_or, take, drop, set, length-drop}
use lib.Seq.{drop-cons, set_at, length_paste_head}
use Rattle.std.proofs.lemmas.List.{take-take, drop-take}
use Rattle.std.specs.List.{copy_within}
use Rattle.lists.specs.Lists.{without}
use mathlib.Core.Bool.{true, false}
use borrow.Author.Tests.{lt-ltb, le-ltb}
use Rattle.lists.specs.Refusals.{unless_refused}
use Rattle.ledger.specs.declared.Ledger.{Ledger}
use Rattle.ledger.specs.Rules.{leg_at, is_open, obeys}
use Rattle.ledger.specs.Outcome.{Outcome}
use Rattle.ledger_clear.specs.Clear.{close_up, settled_at, clear_refusal, clear_of}

-- ---- a list closed up over a place

module _ {A : Type 0} where
  without-parts : (k : ℕ) (l : List A) → without k l ≡ take k l ++ drop (suc k) l
  unfolding without
  without-parts zero [] = refl
  without-parts (suc k) [] = refl
  without-parts zero (x ∷ xs) = refl
  without-parts (suc k) (x ∷ xs) = ap (λ (t : List A). x ∷ t) (without-parts k xs)

  -- the elements after the place, up to the last that counts, move down one, and a stands where that was
  pub closed : (l : List A) (k n : ℕ) (a : A) → k < n → n ≤ length l
      → set (copy_within l (k + 1) n k) (n - 1) a ≡ without k (take n l) ++ a ∷ drop n l
  closed l k n a h long =
      let m = n - (k + 1) in
      let front = take k l ++ take m (drop (k + 1) l) in
      let past : suc (k + m) ≡ n = omega arith in
      let counted : suc k + m ≡ n = omega arith in
      let last : k + m ≡ n - 1 = omega arith in
      let one : k + 1 ≡ suc k = omega arith in
      let back : drop (k + m) l ≡ get_or l (k + m) a ∷ drop n l = drop-cons l (k + m) a (omega arith) ∙ ap (λ (i : ℕ). get_or l (k + m) a ∷ drop i l) past in
      let size : length front ≡ n - 1 = length_paste_head l k (drop (k + 1) l) m (omega arith) (omega (arith, length-drop (k + 1) l)) ∙ last in
      let moved : drop (suc k) (take n l) ≡ take m (drop (k + 1) l) =
      ap (λ (i : ℕ). drop (suc k) (take i l)) (sym counted) ∙ drop-take (suc k) m l ∙ ap (λ (i : ℕ). take m (drop i l)) (sym one) in
      let left : front ≡ without k (take n l) = sym (without-parts k (take n l) ∙ ap₂ (λ (x y : List A). x ++ y) (take-take k n l (omega arith)) moved) in
      ap (λ (x : List A). set (front ++ x) (n - 1) a) back
      ∙ set_at front (get_or l (k + m) a) (drop n l) a (n - 1) size
      ∙ ap (λ (x : List A). x ++ a ∷ drop n l) left

module _ (l : Ledger) (place : ℕ) where
  pub clear-60 : obeys l ≡ false → ◌≡◌ {A = Outcome} (record { refusal = 60; ledger = l }) (clear_of l place)
  unfolding clear_of clear_refusal unless_refused
  clear-60 a = rw a

  pub clear-past : obeys l ≡ true → l.count ≤ place → ◌≡◌ {A = Outcome} (record { refusal = 65; ledger = l }) (clear_of l place)
  unfolding clear_of clear_refusal settled_at unless_refused
  clear-past a b = rw (a, le-ltb _ _ b)

  pub clear-open : obeys l ≡ true → place < l.count → is_open (leg_at l place).standing ≡ true → ◌≡◌ {A = Outcome} (record { refusal = 65; ledger = l }) (clear_of l place)
  unfolding clear_of clear_refusal settled_at unless_refused
  clear-open a b c = rw (a, lt-ltb _ _ b, c)

  pub clear-0 : obeys l ≡ true → place < l.count → is_open (leg_at l place).standing ≡ false → {m : Ledger} → m ≡ close_up l place → ◌≡◌ {A = Outcome} (record { refusal = 0; ledger = m }) (clear_of l place)
  unfolding clear_of clear_refusal settled_at unless_refused
  clear-0 a b c e = rw (a, lt-ltb _ _ b, c, e)
