-- What a chain of refusals tells when it gives 0, where it stops, and what stands beside it.
use Prim.Native.Nat.{ℕ, zero, suc}
use mathlib.Core.Path.{◌≡◌, refl}
use mathlib.Core.Bool.{Bool, true, false}
use native.Mathlib.Omega.{arith}
use Rattle.lists.specs.Refusals.{refuse, or_else, unless_refused}

-- a refusal of 0 passes each test
pub pass : (k : ℕ) (t : Bool) (later : ℕ) → refuse (suc k) t later ≡ 0 → (t ≡ false) × (later ≡ 0)
pass k true later h = absurd (omega arith)
pass k false later h = (refl, h)

pub or-pass : (a b : ℕ) → or_else a b ≡ 0 → (a ≡ 0) × (b ≡ 0)
or-pass zero b h = (refl, h)
or-pass (suc a) b h = absurd (omega arith)

pub or-refused : (a b : ℕ) → (a ≡ 0 → ⊥) → or_else a b ≡ a
or-refused zero b h = absurd (h refl)
or-refused (suc a) b h = refl

module _ {A : Type 0} (x z : A) where
  pub taken : {n : ℕ} → n ≡ 0 → unless_refused n x z ≡ x
  unfolding unless_refused
  taken h = rw h

  pub refused : (n : ℕ) → (n ≡ 0 → ⊥) → unless_refused n x z ≡ z
  unfolding unless_refused
  refused zero h = absurd (h refl)
  refused (suc n) h = refl

-- what is the same for both is so whatever the number
pub either_way : {A B : Type 0} (g : A → B) (n : ℕ) {x z : A} → g x ≡ g z → g (unless_refused n x z) ≡ g z
unfolding unless_refused
either_way g zero e = e
either_way g (suc n) e = refl
