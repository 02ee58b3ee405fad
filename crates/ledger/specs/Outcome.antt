-- What answer and clear come to (document 01, "The ledger of legs").
use Rattle.std.specs.Prelude.{ℕ, Result, Ok, Err}
use Rattle.refusal.specs.declared.Refusal.{Refusal}
use Rattle.refusal.specs.Numbers.{number}
use Rattle.ledger.specs.declared.Ledger.{Ledger}

-- the number, and the ledger after the call
pub record Outcome : Type 0 where
  pub ledger : Ledger
  pub refusal : ℕ

-- what the result of a call on the ledger l comes to: beside a refusal the ledger is as it was
abbrev pub outcome : Ledger → Result Ledger Refusal → Outcome
outcome l (Ok m) = record { refusal = 0; ledger = m }
outcome l (Err r) = record { refusal = number r; ledger = l }
