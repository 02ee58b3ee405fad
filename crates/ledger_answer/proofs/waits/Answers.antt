-- `ledger_answer::waits` meets its contract: by cases on the reply.
use Rattle.ledger_answer.specs.Answer.{waits}
use borrow.Author.Rules.{rules}
use Rattle.ledger_answer.proofs.waits.Goals as goal

pub returns-in-Ack : goal.returns-in-Ack
unfolding waits
returns-in-Ack c = search rules

pub returns-in-Nak : goal.returns-in-Nak
unfolding waits
returns-in-Nak c = rw c.in-Nak.is
