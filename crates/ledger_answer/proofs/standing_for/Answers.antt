-- `ledger_answer::standing_for` meets its contract: by cases on the reply.
use Rattle.ledger_answer.specs.Answer.{standing_for}
use borrow.Author.Rules.{rules}
use Rattle.ledger_answer.proofs.standing_for.Goals as goal

pub returns-in-Ack : goal.returns-in-Ack
unfolding standing_for
returns-in-Ack c = search rules

pub returns-in-Nak : goal.returns-in-Nak
unfolding standing_for
returns-in-Nak c = rw c.in-Nak.is
