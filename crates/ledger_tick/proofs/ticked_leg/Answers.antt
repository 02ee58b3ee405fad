-- `ledger_tick::ticked_leg` meets its contract: the standing decides, then the ticks left.
use mathlib.Core.Path.{◌∙◌}
use Rattle.lists.proofs.Bools.{told-false, told-true}
use Rattle.ledger_tick.proofs.Laws.{ticked-settled, ticked-out, ticked-less}
use Rattle.ledger_tick.proofs.ticked_leg.Goals as goal

pub returns-then-not-is_open : goal.returns-then-not-is_open
returns-then-not-is_open c = ticked-settled c.args.g (told-false c.is_open.ensures c.if-not-is_open.true)

pub returns-then-g-le1 : goal.returns-then-g-le1
returns-then-g-le1 c = c.with_standing.ensures ∙ ticked-out c.args.g (told-true c.is_open.ensures c.if-not-is_open.false) c.if-g-le1.true

pub returns : goal.returns
returns c = c.with_standing-2.ensures ∙ ticked-less c.args.g (told-true c.is_open.ensures c.if-not-is_open.false) c.if-g-le1.false
