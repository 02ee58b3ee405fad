-- `ledger_answer::settled` meets its contract: the leg with the reply's standing and no ticks.
use Rattle.ledger_answer.specs.Answer.{settled}
use Rattle.ledger_answer.proofs.settled.Goals as goal

pub returns : goal.returns
unfolding settled
returns c = rw (c.with_standing.ensures, c.standing_for.ensures)
