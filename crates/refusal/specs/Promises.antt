-- What the names promise: each number is that of one refusal, and none is 0.
use Rattle.std.specs.Prelude.{ℕ, ◌≡◌, Result}
use Rattle.refusal.specs.declared.Refusal.{Refusal}
use Rattle.refusal.specs.declared.Fault.{Fault}
use Rattle.refusal.specs.Numbers.{number, Answers, AnswersAt}

pub record Named : Type 0 where
  pub one : (r s : Refusal) → number r ≡ number s → r ≡ s
  pub none_zero : (r : Refusal) → number r ≡ 0 → ⊥

-- a number and a value have one answer
pub record Settled : Type 1 where
  pub answer : {A : Type 0} (x y : Result A Refusal) (n : ℕ) (v : A) → Answers x n v → Answers y n v → x ≡ y
  pub answer_at : {A : Type 0} (x y : Result A Fault) (n p : ℕ) (v : A) → AnswersAt x n p v → AnswersAt y n p v → x ≡ y
