-- `ledger_accept::refusing::call_refusal` meets its contract: the tests on the way say which number.
use mathlib.Core.Path.{◌∙◌}
use borrow.Author.Tests.{not-true, not-false}
use Rattle.lists.proofs.Bools.{told-false, told-true}
use Rattle.ledger.proofs.Laws.{obedient}
use Rattle.ledger_accept.proofs.Laws.{call-50, call-51, call-60, call-quiet, call-legs}
use Rattle.ledger_accept.proofs.refusing.call_refusal.Goals as goal

pub returns-then-not-table_in_range : goal.returns-then-not-table_in_range
returns-then-not-table_in_range c = call-50 c.args.l c.args.e c.args.arrival c.args.table c.args.ticks (told-false c.table_in_range.ensures c.if-not-table_in_range.true)

pub returns-then-arrival-gt-LARGEST_PORT : goal.returns-then-arrival-gt-LARGEST_PORT
returns-then-arrival-gt-LARGEST_PORT c = call-51 c.args.l c.args.e c.args.arrival c.args.table c.args.ticks (told-true c.table_in_range.ensures c.if-not-table_in_range.false) c.if-arrival-gt-LARGEST_PORT.true

pub returns-then-not-obeys : goal.returns-then-not-obeys
returns-then-not-obeys c =
    call-60 c.args.l c.args.e c.args.arrival c.args.table c.args.ticks (told-true c.table_in_range.ensures c.if-not-table_in_range.false) c.if-arrival-gt-LARGEST_PORT.false
    (told-false c.obeys.ensures c.if-not-obeys.true)

pub returns-then-not-e : goal.returns-then-not-e
returns-then-not-e c =
    call-quiet c.args.l c.args.e c.args.arrival c.args.table c.args.ticks (told-true c.table_in_range.ensures c.if-not-table_in_range.false) c.if-arrival-gt-LARGEST_PORT.false
    (told-true c.obeys.ensures c.if-not-obeys.false) (not-true _ c.if-not-e.true)

pub legs_refusal-requires : goal.legs_refusal-requires
legs_refusal-requires c = (obedient c.args.l (told-true c.obeys.ensures c.if-not-obeys.false)).few

pub returns : goal.returns
returns c =
    c.legs_refusal.ensures
    ∙ call-legs c.args.l c.args.e c.args.arrival c.args.table c.args.ticks (told-true c.table_in_range.ensures c.if-not-table_in_range.false) c.if-arrival-gt-LARGEST_PORT.false
    (told-true c.obeys.ensures c.if-not-obeys.false) (not-false _ c.if-not-e.false)
