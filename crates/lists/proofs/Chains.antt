-- A chain of tests at a `return`: the one that holds decides, those before it are passed.
use Prim.Native.Nat.{ℕ, zero, suc, ◌+◌, ◌-◌, ◌<◌}
use mathlib.Core.Path.{◌≡◌, refl, sym, ap, ◌∙◌}
use mathlib.Core.Bool.{Bool, true, false}
use native.Mathlib.Omega.{arith}
use native.Mathlib.Numerals.{add-one}
use native.Mathlib.Nat.{add-zero, add-suc}
use native.Mathlib.Decide.{dec_lt}
use Rattle.lists.specs.Refusals.{refuse, or_else}
use Rattle.lists.specs.Chains.{first_refusal_below}
use Rattle.lists.proofs.Refusals.{or-pass, or-refused}

pub stops : (n : ℕ) {t : Bool} (later : ℕ) → t ≡ true → n ≡ refuse n t later
stops n later e = rw e

pub passes : (n : ℕ) {t : Bool} {r later : ℕ} → t ≡ false → r ≡ later → r ≡ refuse n t later
passes n e h = rw e h

-- ---- the first number other than 0

module _ (d : ℕ → ℕ) where
  pub refusal-none : first_refusal_below d 0 ≡ 0
  unfolding first_refusal_below
  refusal-none = refl

  refusal-next : (i : ℕ) → first_refusal_below d i ≡ 0 → first_refusal_below d (suc i) ≡ d i
  unfolding first_refusal_below
  refusal-next i h = rw h

  pub refusal-more : (i : ℕ) → first_refusal_below d i ≡ 0 → d i ≡ 0 → first_refusal_below d (i + 1) ≡ 0
  refusal-more i h e = rw add-one (refusal-next i h ∙ e)

  -- a number other than 0 decides for all places after it
  pub refusal-stays : (n k : ℕ) → (first_refusal_below d n ≡ 0 → ⊥) → first_refusal_below d (n + k) ≡ first_refusal_below d n
  unfolding first_refusal_below
  refusal-stays n zero h = rw add-zero
  refusal-stays n (suc k) h = rw (add-suc, refusal-stays n k h) (or-refused (first_refusal_below d n) (d (n + k)) h)

  pub refusal-found : (n i : ℕ) → i < n → first_refusal_below d i ≡ 0 → (d i ≡ 0 → ⊥) → first_refusal_below d n ≡ d i
  refusal-found n i l h e =
      let k : n ≡ suc i + (n - suc i) = omega arith in
      ap (first_refusal_below d) k ∙ refusal-stays (suc i) (n - suc i) (λ z. e (sym (refusal-next i h) ∙ z)) ∙ refusal-next i h

  -- where it is 0, so is every number below n, and it is 0 at each place on the way
  pub refusal-zero : (n i : ℕ) → first_refusal_below d n ≡ 0 → i < n → d i ≡ 0
  unfolding first_refusal_below
  refusal-zero zero i h l = absurd (omega arith)
  refusal-zero (suc n) i h l = go (dec_lt i n) (or-pass (first_refusal_below d n) (d n) h) (refusal-zero n i)
    where
      go : Dec (i < n) → (first_refusal_below d n ≡ 0) × (d n ≡ 0) → (first_refusal_below d n ≡ 0 → i < n → d i ≡ 0) → d i ≡ 0
      go (yes m) p ih = ih p.0 m
      go (no m) p ih = let e : i ≡ n = omega arith in ap d e ∙ p.1

  -- where it is not 0, it is the number at some place, and all before that are 0
  pub record FirstBad (n : ℕ) : Type 0 where
    pub place : ℕ
    pub below : place < n
    pub before : first_refusal_below d place ≡ 0
    pub bad : d place ≡ 0 → ⊥
    pub same : first_refusal_below d n ≡ d place

  pub first-bad : (n : ℕ) → (first_refusal_below d n ≡ 0 → ⊥) → FirstBad n
  unfolding first_refusal_below
  first-bad zero h = absurd (h refl)
  first-bad (suc n) h = go (first_refusal_below d n) refl (first-bad n)
    where
      go : (k : ℕ) → first_refusal_below d n ≡ k → ((first_refusal_below d n ≡ 0 → ⊥) → FirstBad n) → FirstBad (suc n)
      go zero e ih =
          let q : first_refusal_below d (suc n) ≡ d n = refusal-next n e in
          record { place = n; below = omega arith; before = e; bad = λ z. h (q ∙ z); same = q }
      go (suc k) e ih =
          let f = ih (λ z. absurd (omega arith)) in
          record { place = f.place; below = omega (arith, f.below); before = f.before; bad = f.bad; same = refusal-found (suc n) f.place (omega (arith, f.below)) f.before f.bad }

pub refusal-agree : (d d' : ℕ → ℕ) (n : ℕ) → ((i : ℕ) → i < n → d i ≡ d' i) → first_refusal_below d n ≡ first_refusal_below d' n
unfolding first_refusal_below
refusal-agree d d' zero h = refl
refusal-agree d d' (suc n) h = rw (refusal-agree d d' n (λ i l. h i (omega arith)), h n (omega arith))

-- all numbers are 0, and so is the first other than 0
pub refusals-none : (d : ℕ → ℕ) (n : ℕ) → ((i : ℕ) → i < n → d i ≡ 0) → first_refusal_below d n ≡ 0
unfolding first_refusal_below
refusals-none d zero h = refl
refusals-none d (suc n) h = rw (refusals-none d n (λ i l. h i (omega arith)), h n (omega arith))

-- the first of two refusals at a `return`
pub or-stops : {k a : ℕ} (b : ℕ) → k ≡ a → (k ≡ 0 → ⊥) → k ≡ or_else a b
or-stops {k} {a} b e h = e ∙ sym (or-refused a b (λ z. h (e ∙ z)))

pub or-passes : {a r b : ℕ} → a ≡ 0 → r ≡ b → r ≡ or_else a b
or-passes e h = rw e h
