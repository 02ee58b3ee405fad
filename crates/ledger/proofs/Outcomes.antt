-- What a call comes to says its result's number and ledger.
use mathlib.Core.Path.{◌≡◌, sym, ap}
use Rattle.std.specs.Prelude.{Result, Ok, Err}
use Rattle.refusal.specs.declared.Refusal.{Refusal}
use Rattle.refusal.specs.Numbers.{Answers}
use Rattle.ledger.specs.declared.Ledger.{Ledger}
use Rattle.ledger.specs.Outcome.{Outcome, outcome}

pub outcome-answers : (l : Ledger) (x : Result Ledger Refusal) (o : Outcome) → outcome l x ≡ o → Answers x o.refusal o.ledger
outcome-answers l (Ok m) o e = (sym (ap (λ (y : Outcome). y.refusal) e), ap (λ (y : Outcome). y.ledger) e)
outcome-answers l (Err r) o e = ap (λ (y : Outcome). y.refusal) e
