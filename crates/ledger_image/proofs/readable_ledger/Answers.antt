-- `ledger_image::readable_ledger` meets its contract: the length, the count and the legs that count, in turn.
use borrow.Author.Tests.{le-leb, lt-leb}
use Rattle.ledger_image.specs.Ledger.{readable_ledger}
use Rattle.ledger_image.proofs.readable_ledger.Goals as goal

pub returns-then-b-lt-LEDGER_SIZE : goal.returns-then-b-lt-LEDGER_SIZE
unfolding readable_ledger
returns-then-b-lt-LEDGER_SIZE c = rw (lt-leb _ _ c.if-b-lt-LEDGER_SIZE.true)

pub returns-then-n-gt-MOST_LEGS : goal.returns-then-n-gt-MOST_LEGS
unfolding readable_ledger
returns-then-n-gt-MOST_LEGS c = rw (le-leb _ _ c.if-b-lt-LEDGER_SIZE.false, lt-leb _ _ c.if-n-gt-MOST_LEGS.true)

pub returns : goal.returns
unfolding readable_ledger
returns c = rw (le-leb _ _ c.if-b-lt-LEDGER_SIZE.false, le-leb _ _ c.if-n-gt-MOST_LEGS.false, c.any_stray.ensures)
