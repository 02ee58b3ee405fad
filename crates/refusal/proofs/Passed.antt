-- What a `?` passes on: a result that is the same refusal has its number, which is not 0.
use Prim.Native.Nat.{ℕ}
use mathlib.Core.Path.{◌≡◌, ap, ◌∙◌}
use Rattle.std.specs.Prelude.{Result, Ok, Err}
use Rattle.std.specs.Result.{IsErrAnd}
use Rattle.refusal.specs.declared.Refusal.{Refusal}
use Rattle.refusal.specs.declared.Fault.{Fault}
use Rattle.refusal.specs.Numbers.{number, number_in, Answers, AnswersAt}
use Rattle.refusal.proofs.Laws.{names}

module _ {A : Type 0} where
  pub passed : (x : Result A Refusal) (r : Refusal) → IsErrAnd x (λ s. s ≡ r) → {n : ℕ} → number r ≡ n → number_in x ≡ n
  passed (Ok a) r h e = absurd h
  passed (Err s) r h e = ap number h ∙ e

  pub passed-bad : (x : Result A Refusal) (r : Refusal) → IsErrAnd x (λ s. s ≡ r) → number_in x ≡ 0 → ⊥
  passed-bad (Ok a) r h e = absurd h
  passed-bad (Err s) r h e = names.none_zero s e

  pub passed-answer : (x : Result A Refusal) (r : Refusal) → IsErrAnd x (λ s. s ≡ r) → {n : ℕ} → number r ≡ n → (v : A) → Answers x n v
  passed-answer (Ok a) r h e v = absurd h
  passed-answer (Err s) r h e v = ap number h ∙ e

  pub passed-answer_at : (x : Result A Fault) (f : Fault) → IsErrAnd x (λ g. g ≡ f) → {n p : ℕ} → number f.refusal ≡ n → f.place ≡ p → (v : A) → AnswersAt x n p v
  passed-answer_at (Ok a) f h e k v = absurd h
  passed-answer_at (Err g) f h e k v = (ap (λ (y : Fault). number y.refusal) h ∙ e, ap (λ (y : Fault). y.place) h ∙ k)
