-- `ledger_accept::adding::leg_for` meets its contract: the choice decides the standing and the ticks.
use mathlib.Core.Path.{◌≡◌, sym, ◌∙◌, ap}
use mathlib.Core.Bool.{Bool, true}
use Rattle.address.specs.declared.Port.{Port}
use Rattle.address.specs.declared.Address.{Address}
use Rattle.table.specs.declared.Table.{Table}
use Rattle.table.specs.Choice.{Choice}
use Rattle.table.specs.Table.{table_in_range, call_in_range, choose_of}
use Rattle.table.specs.Private.{choice_for}
use Rattle.table.proofs.Laws.{chosen-tested}
use Rattle.ledger_accept.specs.Accept.{is_unrouted, leg_for}
use Rattle.ledger_accept.proofs.adding.leg_for.Goals as goal

-- the choice for a table and a call in range is the one that the definition asks for
told : (t : Table) (d : Address) (arrival : Port) → table_in_range t ≡ true → call_in_range d arrival ≡ true → {r : Bool} {c : Choice}
    → r ≡ is_unrouted c → c ≡ choice_for t d arrival → is_unrouted (choose_of t d arrival) ≡ r
told t d arrival table call e f = ap is_unrouted (chosen-tested t d arrival table call ∙ sym f) ∙ sym e

pub returns-then-is_unrouted : goal.returns-then-is_unrouted
unfolding leg_for
returns-then-is_unrouted c =
    rw (told c.args.table c.args.destination c.args.arrival c.requires.0 c.requires.1 c.is_unrouted.ensures c.choice_for.ensures.value ∙ c.if-is_unrouted.true)

pub returns : goal.returns
unfolding leg_for
returns c =
    rw (told c.args.table c.args.destination c.args.arrival c.requires.0 c.requires.1 c.is_unrouted.ensures c.choice_for.ensures.value ∙ c.if-is_unrouted.false)
