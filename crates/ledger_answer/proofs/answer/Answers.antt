-- `ledger_answer::answer` meets its contract: the rules decide, then whether the place that was found holds a leg.
use Rattle.lists.proofs.Bools.{told-false, told-true}
use Rattle.lists.specs.Places.{element_at}
use Rattle.std.specs.Prelude.{Ok, Err}
use Rattle.refusal.specs.declared.Refusal.TheVariants.{BadLedger, NoOpenLeg}
use Rattle.ledger.specs.Rules.{leg_at}
use Rattle.ledger.proofs.Outcomes.{outcome-answers}
use Rattle.ledger_answer.proofs.Laws.{found, found_within, not-found, answer-60, answer-64, answer-0}
use native.Mathlib.Omega.{arith}
use Rattle.ledger_answer.proofs.answer.Goals as goal

pub returns-then-not-obeys : goal.returns-then-not-obeys
returns-then-not-obeys c =
    let w = answer-60 c.args.l c.args.by c.args.to c.args.seq c.args.reply (told-false c.obeys.ensures c.if-not-obeys.true) in
    record { value = outcome-answers c.args.l (Err BadLedger) _ w; answer = w }

pub returns-in_default : goal.returns-in_default
returns-in_default c =
    let w =
    answer-64 c.args.l c.args.by c.args.to c.args.seq c.args.reply (told-true c.obeys.ensures c.if-not-obeys.false)
    (not-found c.args.l c.args.by c.args.to c.args.seq c.answered_place.ensures c.in_default.is) in
    record { value = outcome-answers c.args.l (Err NoOpenLeg) _ w; answer = w }

pub offset_bounds-l-k : goal.offset_bounds-l-k
offset_bounds-l-k c =
    let k = found_within c.args.l c.args.by c.args.to c.args.seq c.answered_place.ensures c.in-Some.is (told-true c.obeys.ensures c.if-not-obeys.false) in
    record { fits = omega (arith, k) }

pub bounds-l-k : goal.bounds-l-k
bounds-l-k c = found_within c.args.l c.args.by c.args.to c.args.seq c.answered_place.ensures c.in-Some.is (told-true c.obeys.ensures c.if-not-obeys.false)

pub offset_bounds-m-k : goal.offset_bounds-m-k
offset_bounds-m-k c =
    let k = found_within c.args.l c.args.by c.args.to c.args.seq c.answered_place.ensures c.in-Some.is (told-true c.obeys.ensures c.if-not-obeys.false) in
    record { fits = omega (arith, k) }

pub bounds-m-k : goal.bounds-m-k
bounds-m-k c = found_within c.args.l c.args.by c.args.to c.args.seq c.answered_place.ensures c.in-Some.is (told-true c.obeys.ensures c.if-not-obeys.false)

pub returns : goal.returns
unfolding leg_at element_at
returns c =
    let w =
    answer-0 c.args.l c.args.by c.args.to c.args.seq c.args.reply (told-true c.obeys.ensures c.if-not-obeys.false)
    (found c.args.l c.args.by c.args.to c.args.seq c.answered_place.ensures c.in-Some.is) c.answered.ensures in
    record { value = outcome-answers c.args.l (Ok _) _ w; answer = w }
