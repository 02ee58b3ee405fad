-- `ledger_accept::refusing::legs_refusal` meets its contract: the tests on the way say which number.
use mathlib.Core.Path.{sym, ◌∙◌}
use Rattle.ledger_accept.proofs.Laws.{legs-61, legs-62, legs-63, legs-fit}
use Rattle.ledger_accept.proofs.refusing.legs_refusal.Goals as goal

pub returns-then-ticks-eq0 : goal.returns-then-ticks-eq0
returns-then-ticks-eq0 c = legs-61 c.args.l c.args.e c.args.ticks c.if-ticks-eq0.true

pub returns-then-any_open_from : goal.returns-then-any_open_from
returns-then-any_open_from c = legs-62 c.args.l c.args.e c.args.ticks c.if-ticks-eq0.false (sym c.any_open_from.ensures ∙ c.if-any_open_from.true)

pub returns-then-l-e : goal.returns-then-l-e
returns-then-l-e c = legs-63 c.args.l c.args.e c.args.ticks c.if-ticks-eq0.false (sym c.any_open_from.ensures ∙ c.if-any_open_from.false) c.if-l-e.true

pub returns : goal.returns
returns c = legs-fit c.args.l c.args.e c.args.ticks c.if-ticks-eq0.false (sym c.any_open_from.ensures ∙ c.if-any_open_from.false) c.if-l-e.false
