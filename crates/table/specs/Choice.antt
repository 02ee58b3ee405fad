-- Document 01's choice as one value: what `choose` gives, with a refusal by its number.
use Rattle.std.specs.Prelude.{ℕ, Result, Ok, Err}
use Rattle.address.specs.declared.Port.{Port}
use Rattle.refusal.specs.declared.Refusal.{Refusal}
use Rattle.refusal.specs.Numbers.{number}
use Rattle.table.specs.declared.Choice.{Choice as Taken}
use Rattle.table.specs.declared.Choice.TheVariants.{Local as TakenHere, Out as TakenOut}

-- for this node at the port, or out by the port, or refused with the number
pub data Choice : Type 0 where
  Local : Port → Choice
  Out : Port → Choice
  Refused : ℕ → Choice

-- the choice that an answer is
abbrev pub choice_in : Result Taken Refusal → Choice
choice_in (Ok (TakenHere p)) = Local p
choice_in (Ok (TakenOut p)) = Out p
choice_in (Err r) = Refused (number r)
