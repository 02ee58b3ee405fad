-- `ledger::rules::is_open_leg` meets its contract: its tests are the definition's.
use Rattle.ledger.specs.Rules.{is_open_leg}
use Rattle.ledger.proofs.rules.is_open_leg.Goals as goal

pub returns : goal.returns
unfolding is_open_leg
returns c = rw (c.is_open.ensures, c.same_address.ensures, c.same_address-2.ensures)
