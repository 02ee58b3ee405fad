-- `ledger_door::reply_of` meets its contract: nak 0 is an ACK.
use borrow.Author.Tests.{eq-eqb, ne_eqb}
use Rattle.ledger_door.specs.Calls.{reply_of}
use Rattle.ledger_door.proofs.reply_of.Goals as goal

pub returns-then-nak-eq0 : goal.returns-then-nak-eq0
unfolding reply_of
returns-then-nak-eq0 c = rw (eq-eqb _ _ c.if-nak-eq0.true)

pub returns : goal.returns
unfolding reply_of
returns c = rw (ne_eqb _ _ c.if-nak-eq0.false)
