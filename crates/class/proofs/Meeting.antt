-- The nodes met, as the code holds them: a word of 16 digits.
use Prim.Native.Nat.{ℕ, ◌*◌, ◌%◌, ◌^◌, ◌<◌}
use mathlib.Core.Path.{◌≡◌, refl, sym, ap, ◌∙◌}
use mathlib.Core.Bool.{true, false}
use native.Mathlib.Omega.{arith}
use lib.Bits.{bit_and}
use lib.Pow.{shl_exact}
use borrow.Author.Tests.{eqb-true, eq-eqb}
use Rattle.lists.proofs.Bools.{and_left, and_right, and_both, no_true}
use Rattle.route_links.specs.Sets.{has}
use Rattle.route_links.proofs.Digits.{has-and, has-positive, some-digit}
use Rattle.class.proofs.Steps.{digit}

-- the digit of a node
pub shifted : (k : ℕ) → k < 16 → 1 * 2 ^ k % 65536 ≡ 2 ^ k
shifted k h =
    let e : 1 * 2 ^ k % 2 ^ 16 ≡ 1 * 2 ^ k = shl_exact 1 k 16 (omega arith) (omega arith) in
    omega arith

module _ (w k : ℕ) (h : k < 16) where
  -- the node is met where the two words have a digit in common
  pub met-there : (bit_and w (2 ^ k) ≡ 0 → ⊥) → has w k ≡ true
  met-there ne =
      let some = some-digit (bit_and w (2 ^ k)) (omega arith) in
      let both = sym (has-and w (2 ^ k) some.0) ∙ some.1 in
      let here : some.0 ≡ k = eqb-true _ _ (sym (digit k some.0 (omega arith)) ∙ and_right (has w some.0) _ both) in
      ap (has w) (sym here) ∙ and_left _ (has (2 ^ k) some.0) both

  pub met-nowhere : bit_and w (2 ^ k) ≡ 0 → has w k ≡ false
  met-nowhere z =
      no_true (λ e.
      let own : has (2 ^ k) k ≡ true = digit k k (omega arith) ∙ eq-eqb k k refl in
      let pos = has-positive (bit_and w (2 ^ k)) k (has-and w (2 ^ k) k ∙ and_both e own) in
      omega arith)
