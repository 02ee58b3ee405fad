-- `ledger::rules::leg_obeys` meets its contract: its tests are the definition's.
use Rattle.ledger.proofs.Laws.{right-told}
use Rattle.ledger.proofs.rules.leg_obeys.Goals as goal

pub returns : goal.returns
returns c = right-told c.args.g c.is_open.ensures c.in_range.ensures c.in_range-2.ensures
