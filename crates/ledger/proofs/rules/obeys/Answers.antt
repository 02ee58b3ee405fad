-- `ledger::rules::obeys` meets its contract: the count decides, then each leg, then whether a key is there twice.
use mathlib.Core.Path.{◌≡◌, sym, ap, ◌∙◌}
use lib.ListN.{length, take}
use Rattle.std.proofs.lemmas.List.{length-take-le}
use Rattle.lists.specs.Places.{row}
use Rattle.lists.proofs.Bools.{told-false, told-true}
use Rattle.lists.proofs.Places.{any_none, any-end, row-none, row_next}
use Rattle.ledger.specs.Rules.{leg_obeys, broken_at}
use Rattle.ledger.specs.Private.{leg_key, leg_key_at}
use Rattle.ledger.proofs.Laws.{leg-read, alike-keys, too_many, wrong-leg, right-next, by_alike}
use native.Mathlib.Omega.{arith}
use borrow.Author.Rules.{rules}
use Rattle.ledger.proofs.rules.obeys.Goals as goal

pub returns-then-l-gt-MOST_LEGS : goal.returns-then-l-gt-MOST_LEGS
returns-then-l-gt-MOST_LEGS c = too_many c.args.l c.if-l-gt-MOST_LEGS.true

pub loop-i-init : goal.loop-i-init
loop-i-init c = (any_none _, sym (row-none 128 0 (leg_key_at c.args.l)))

pub returns-then-not-leg_obeys : goal.returns-then-not-leg_obeys
returns-then-not-leg_obeys c =
    let l = c.args.l in
    let counted : length (take l.count l.legs) ≡ l.count = search (rules, length-take-le) in
    let e = leg-read l _ c.loop-i.i c.loop-i-test.true in
    wrong-leg l c.if-l-gt-MOST_LEGS.false c.loop-i.i (omega (arith, counted, c.loop-i-test.true)) (ap leg_obeys (sym e) ∙ told-false c.leg_obeys.ensures c.if-not-leg_obeys.true)

pub loop-i-preserved : goal.loop-i-preserved
unfolding leg_key_at
loop-i-preserved c =
    let l = c.args.l in
    let counted : length (take l.count l.legs) ≡ l.count = search (rules, length-take-le) in
    let a = c.loop-i in
    let e = leg-read l _ a.i c.loop-i-test.true in (
      right-next l a.i a.invariant.0 (ap leg_obeys (sym e) ∙ told-true c.leg_obeys.ensures c.if-not-leg_obeys.false),
      rw (c.leg_key.ensures ∙ ap leg_key e, a.invariant.1) (row_next 128 0 (leg_key_at l) a.i (omega (arith, counted))),
    )

pub returns : goal.returns
returns c =
    let l = c.args.l in
    let counted : length (take l.count l.legs) ≡ l.count = search (rules, length-take-le) in
    let a = c.loop-i in
    let e : l.count ≡ a.i = omega (arith, counted) in
    let w = sym (any-end (broken_at l) e a.invariant.0) in
    by_alike l c.if-l-gt-MOST_LEGS.false w (c.repeated.ensures ∙ alike-keys l w (a.invariant.1 ∙ ap (row 128 0 (leg_key_at l)) (sym e)))
