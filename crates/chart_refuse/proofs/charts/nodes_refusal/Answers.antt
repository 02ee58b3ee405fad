-- `chart_refuse::charts::nodes_refusal` meets its contract: the number at a place, by the keys of the nodes before it, is the node's own.
use mathlib.Core.Path.{◌≡◌, sym, ◌∙◌}
use native.Mathlib.Omega.{arith}
use lib.ListN.{length, take}
use borrow.Author.Rules.{rules}
use Rattle.std.proofs.lemmas.List.{length-take-le}
use Rattle.lists.proofs.Chains.{refusal-none, refusal-more, refusal-found}
use Rattle.refusal.proofs.Laws.{names}
use Rattle.refusal.proofs.Passed.{passed}
use Rattle.chart_refuse.specs.Refusal.{node_refusal_at}
use Rattle.chart_refuse.proofs.Laws.{node-refusal-read}
use Rattle.chart_refuse.proofs.charts.nodes_refusal.Goals as goal

pub loop-i-init : goal.loop-i-init
loop-i-init c = refusal-none _

pub returns-in_err-node_refusal : goal.returns-in_err-node_refusal
returns-in_err-node_refusal c =
    let nodes = c.args.nodes in
    let counted : length (take nodes.count nodes.items) ≡ nodes.count = search (rules, length-take-le) in
    let l = c.loop-i in
    let h = c.loop-i-test.true in
    let e = c.in_err-node_refusal.ensures ∙ node-refusal-read nodes c.args.keys.now c.requires.1 _ l.i h in
    passed _ _ c.from_residual.ensures.1 (e ∙ sym (refusal-found (node_refusal_at nodes) nodes.count l.i (omega (arith, counted, h)) l.invariant (λ z. names.none_zero _ (e ∙ z))))

pub loop-i-preserved : goal.loop-i-preserved
loop-i-preserved c =
    let nodes = c.args.nodes in
    let l = c.loop-i in
    refusal-more (node_refusal_at nodes) l.i l.invariant (sym (c.in_ok-node_refusal.ensures ∙ node-refusal-read nodes c.args.keys.now c.requires.1 _ l.i c.loop-i-test.true))
