-- `ledger_answer::answered` meets its contract: by whether the reply says wait.
use Rattle.lists.proofs.Bools.{told-true, told-false}
use Rattle.ledger_answer.proofs.Laws.{leg-waits, leg-settles}
use Rattle.ledger_answer.proofs.answered.Goals as goal

pub returns-then-waits : goal.returns-then-waits
returns-then-waits c = leg-waits c.args.r c.args.g (told-true c.waits.ensures c.if-waits.true) c.with_standing.ensures

pub returns : goal.returns
returns c = leg-settles c.args.r c.args.g (told-false c.waits.ensures c.if-waits.false) c.settled.ensures
