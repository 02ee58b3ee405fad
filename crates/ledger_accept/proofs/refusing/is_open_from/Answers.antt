-- `ledger_accept::refusing::is_open_from` meets its contract: open, from this source and with this number.
use lib.Dec.{eqb}
use Rattle.lists.proofs.Bools.{and_assoc}
use Rattle.address.specs.Address.{same_address}
use Rattle.ledger.specs.Rules.{is_open}
use Rattle.ledger_accept.specs.Accept.{is_open_from}
use Rattle.ledger_accept.proofs.refusing.is_open_from.Goals as goal

pub returns : goal.returns
unfolding is_open_from
returns c =
    let a = c.args in
    rw (c.is_open.ensures, c.same_address.ensures) (and_assoc (is_open a.g.standing) (same_address a.g.source a.source) (eqb a.g.seq.0 a.seq.0))
