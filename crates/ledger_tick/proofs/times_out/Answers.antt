-- `ledger_tick::times_out` meets its contract: a settled leg does not, an open one goes by its ticks.
use Rattle.lists.proofs.Bools.{told-false, told-true}
use Rattle.ledger_tick.proofs.Laws.{stays, by-ticks}
use Rattle.ledger_tick.proofs.times_out.Goals as goal

pub returns-then-not-is_open : goal.returns-then-not-is_open
returns-then-not-is_open c = stays c.args.g (told-false c.is_open.ensures c.if-not-is_open.true)

pub returns : goal.returns
returns c = by-ticks c.args.g (told-true c.is_open.ensures c.if-not-is_open.false)
