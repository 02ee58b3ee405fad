-- `chart_form::one_way` meets its contract: the links that the loop sees are the chart's own.
use mathlib.Core.Path.{◌≡◌, sym, ap, ◌∙◌}
use mathlib.Core.Bool.{not}
use native.Mathlib.Omega.{arith}
use lib.ListN.{length, take}
use borrow.Author.Rules.{rules}
use borrow.Author.Tests.{eq-eqb, ne_eqb}
use Rattle.std.proofs.lemmas.List.{length-take-le}
use Rattle.lists.proofs.Places.{any_none, any-more, any-end, any_found}
use Rattle.chart.specs.declared.Link.{Link}
use Rattle.chart.proofs.Laws.{link-taken}
use Rattle.chart_form.specs.Moving.{one_way_at, one_way}
use Rattle.chart_form.proofs.one_way.Goals as goal

pub loop-l-init : goal.loop-l-init
loop-l-init c = any_none _

pub returns-then-l-ne-BOTH_WAYS : goal.returns-then-l-ne-BOTH_WAYS
unfolding one_way one_way_at
returns-then-l-ne-BOTH_WAYS c =
    let links = c.args.links in
    let counted : length (take links.count links.items) ≡ links.count = search (rules, length-take-le) in
    let i = c.loop-l.l-index in
    let h = c.loop-l-test.true in
    let e = ap (λ (x : Link). x.direction) (link-taken links _ links.count i h) in
    sym (any_found (one_way_at links) links.count i (omega (arith, counted, h)) (ap not (ne_eqb _ 0 (λ z. c.if-l-ne-BOTH_WAYS.true (e ∙ z)))))

pub loop-l-preserved : goal.loop-l-preserved
unfolding one_way_at
loop-l-preserved c =
    let links = c.args.links in
    let i = c.loop-l.l-index in
    let e = ap (λ (x : Link). x.direction) (link-taken links _ links.count i c.loop-l-test.true) in
    any-more _ i c.loop-l.invariant (ap not (eq-eqb _ 0 (sym e ∙ c.if-l-ne-BOTH_WAYS.false)))

pub returns : goal.returns
unfolding one_way
returns c =
    let links = c.args.links in
    let counted : length (take links.count links.items) ≡ links.count = search (rules, length-take-le) in
    any-end _ (omega (arith, counted)) c.loop-l.invariant
