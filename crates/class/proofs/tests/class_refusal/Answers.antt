-- `class::tests::class_refusal` meets its contract: its tests are those of the chain, in turn.
use mathlib.Core.Path.{◌≡◌, refl, sym, ap, ◌∙◌}
use mathlib.Core.Bool.{Bool, not, ◌&&◌}
use lib.Dec.{leb}
use borrow.Author.Tests.{le-leb, lt-leb}
use Rattle.lists.proofs.Bools.{told-true, told-false}
use Rattle.lists.proofs.Chains.{stops, passes}
use Rattle.table.specs.Table.{call_in_range}
use Rattle.class.specs.Class.{class_refusal}
use Rattle.class.proofs.tests.class_refusal.Goals as goal

pub returns-then-any_stray : goal.returns-then-any_stray
unfolding class_refusal
returns-then-any_stray c = stops 50 _ (told-true c.any_stray.ensures c.if-any_stray.true)

pub returns-then-nodes-at : goal.returns-then-nodes-at
unfolding class_refusal
returns-then-nodes-at c =
    let tables = told-false c.any_stray.ensures c.if-any_stray.false in
    passes 50 tables (stops 44 _ (le-leb _ _ c.if-nodes-at.true))

pub returns-then-any_strange : goal.returns-then-any_strange
unfolding class_refusal
returns-then-any_strange c =
    let tables = told-false c.any_stray.ensures c.if-any_stray.false in
    let here = lt-leb _ _ c.if-nodes-at.false in
    passes 50 tables (passes 44 here (stops 95 _ (told-true c.any_strange.ensures c.if-any_strange.true)))

pub returns-then-not-in_range-arrival : goal.returns-then-not-in_range-arrival
unfolding class_refusal call_in_range
returns-then-not-in_range-arrival c =
    let tables = told-false c.any_stray.ensures c.if-any_stray.false in
    let call : let a = c.args in call_in_range a.d a.arrival ≡ (c.in_range.result && leb a.arrival.0 63) = let port = c.args.arrival.0 in
    ap (λ (x : Bool). x && leb port 63) (sym c.in_range.ensures) in
    let here = lt-leb _ _ c.if-nodes-at.false in
    let own = told-false c.any_strange.ensures c.if-any_strange.false in
    let ranges = ap not call in
    passes 50 tables (passes 44 here (passes 95 own (stops 51 _ (ranges ∙ (ap not c.if-not-in_range-arrival.true)))))

pub returns : goal.returns
unfolding class_refusal call_in_range
returns c =
    let tables = told-false c.any_stray.ensures c.if-any_stray.false in
    let call : let a = c.args in call_in_range a.d a.arrival ≡ (c.in_range.result && leb a.arrival.0 63) = let port = c.args.arrival.0 in
    ap (λ (x : Bool). x && leb port 63) (sym c.in_range.ensures) in
    let here = lt-leb _ _ c.if-nodes-at.false in
    let own = told-false c.any_strange.ensures c.if-any_strange.false in
    let ranges = ap not call in
    passes 50 tables (passes 44 here (passes 95 own (passes 51 (ranges ∙ (ap not c.if-not-in_range-arrival.false)) refl)))
