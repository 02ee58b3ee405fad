-- `chart_refuse::charts::links_refusal` meets its contract: the number at a place, by the keys of the nodes and of the links before it, is the link's own.
use mathlib.Core.Path.{◌≡◌, sym, ◌∙◌}
use native.Mathlib.Omega.{arith}
use lib.ListN.{length, take}
use borrow.Author.Rules.{rules}
use Rattle.std.proofs.lemmas.List.{length-take-le}
use Rattle.lists.proofs.Chains.{refusal-none, refusal-more, refusal-found}
use Rattle.refusal.proofs.Laws.{names}
use Rattle.refusal.proofs.Passed.{passed}
use Rattle.chart_refuse.specs.Refusal.{link_refusal_at}
use Rattle.chart_refuse.proofs.Laws.{link-refusal-read}
use Rattle.chart_refuse.proofs.charts.links_refusal.Goals as goal

pub loop-i-init : goal.loop-i-init
loop-i-init c = refusal-none _

pub returns-in_err-link_refusal : goal.returns-in_err-link_refusal
returns-in_err-link_refusal c =
    let a = c.args in
    let counted : length (take a.links.count a.links.items) ≡ a.links.count = search (rules, length-take-le) in
    let l = c.loop-i in
    let h = c.loop-i-test.true in
    let e = c.in_err-link_refusal.ensures ∙ link-refusal-read a.nodes a.keys.now c.requires.1 a.links a.akeys.now a.bkeys.now c.requires.2 _ l.i h in
    passed _ _ c.from_residual.ensures.1 (e ∙ sym (refusal-found (link_refusal_at a.nodes a.links) a.links.count l.i (omega (arith, counted, h)) l.invariant (λ z. names.none_zero _ (e ∙ z))))

pub loop-i-preserved : goal.loop-i-preserved
loop-i-preserved c =
    let a = c.args in
    let l = c.loop-i in
    refusal-more (link_refusal_at a.nodes a.links) l.i l.invariant
    (sym (c.in_ok-link_refusal.ensures ∙ link-refusal-read a.nodes a.keys.now c.requires.1 a.links a.akeys.now a.bkeys.now c.requires.2 _ l.i c.loop-i-test.true))
