-- `ledger_clear::clear` meets its contract: the rules decide, then the place, then whether its leg is settled.
use Rattle.lists.proofs.Bools.{told-false, told-true}
use mathlib.Core.Path.{sym, ◌∙◌}
use Rattle.lists.specs.Places.{element_at}
use Rattle.ledger.specs.Rules.{leg_at}
use Rattle.std.specs.Prelude.{Ok, Err}
use Rattle.refusal.specs.declared.Refusal.TheVariants.{BadLedger, NoSettledLeg}
use Rattle.ledger.proofs.Laws.{obedient}
use Rattle.ledger.proofs.Outcomes.{outcome-answers}
use Rattle.ledger_clear.proofs.Laws.{clear-60, clear-past, clear-open, clear-0}
use native.Mathlib.Omega.{arith}
use Rattle.ledger_clear.proofs.clear.Goals as goal

pub returns-then-not-obeys : goal.returns-then-not-obeys
returns-then-not-obeys c =
    let w = clear-60 c.args.l c.args.place (told-false c.obeys.ensures c.if-not-obeys.true) in
    record { value = outcome-answers c.args.l (Err BadLedger) _ w; answer = w }

pub returns-then-l-place : goal.returns-then-l-place
returns-then-l-place c =
    let w = clear-past c.args.l c.args.place (told-true c.obeys.ensures c.if-not-obeys.false) c.if-l-place.true in
    record { value = outcome-answers c.args.l (Err NoSettledLeg) _ w; answer = w }

pub bounds-l-place : goal.bounds-l-place
bounds-l-place c = omega (arith, (obedient c.args.l (told-true c.obeys.ensures c.if-not-obeys.false)).few)

pub returns-then-is_open : goal.returns-then-is_open
unfolding leg_at element_at
returns-then-is_open c =
    let w = clear-open c.args.l c.args.place (told-true c.obeys.ensures c.if-not-obeys.false) c.if-l-place.false (sym c.is_open.ensures ∙ c.if-is_open.true) in
    record { value = outcome-answers c.args.l (Err NoSettledLeg) _ w; answer = w }

pub close_up-m-requires : goal.close_up-m-requires
close_up-m-requires c = ((obedient c.args.l (told-true c.obeys.ensures c.if-not-obeys.false)).few, c.if-l-place.false)

pub returns : goal.returns
unfolding leg_at element_at
returns c =
    let w = clear-0 c.args.l c.args.place (told-true c.obeys.ensures c.if-not-obeys.false) c.if-l-place.false (sym c.is_open.ensures ∙ c.if-is_open.false) c.close_up-m.ensures in
    record { value = outcome-answers c.args.l (Ok _) _ w; answer = w }
