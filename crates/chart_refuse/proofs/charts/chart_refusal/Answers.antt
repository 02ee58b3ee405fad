-- `chart_refuse::chart_refusal` meets its contract: the counts decide, then the first bad value.
use Prim.Native.Nat.{◌≤◌}
use mathlib.Core.Path.{sym, ◌∙◌}
use native.Mathlib.Omega.{arith}
use borrow.Author.Tests.{lt-ltb, le-ltb}
use Rattle.lists.proofs.Chains.{stops, passes, or-stops, or-passes}
use Rattle.refusal.proofs.Laws.{names}
use Rattle.refusal.proofs.Passed.{passed}
use Rattle.chart_refuse.specs.Private.{KeyedNodes}
use Rattle.chart_refuse.proofs.ByKeys.{keyed-of, question-keyed}
use Rattle.chart_refuse.specs.Refusal.{chart_values_refusal, chart_refusal}
use Rattle.chart_refuse.proofs.charts.chart_refusal.Goals as goal

pub returns-then-nodes-gt-MOST_NODES : goal.returns-then-nodes-gt-MOST_NODES
unfolding chart_refusal
returns-then-nodes-gt-MOST_NODES c = stops 26 _ (lt-ltb _ _ c.if-nodes-gt-MOST_NODES.true)

pub returns-then-links-gt-MOST_LINKS : goal.returns-then-links-gt-MOST_LINKS
unfolding chart_refusal
returns-then-links-gt-MOST_LINKS c = passes 26 (le-ltb _ _ c.if-nodes-gt-MOST_NODES.false) (stops 26 _ (lt-ltb _ _ c.if-links-gt-MOST_LINKS.true))

pub returns-in_err-nodes_refusal : goal.returns-in_err-nodes_refusal
unfolding chart_values_refusal chart_refusal
returns-in_err-nodes_refusal c =
    passed _ _ c.from_residual.ensures.1
    (passes 26 (le-ltb _ _ c.if-nodes-gt-MOST_NODES.false)
    (passes 26 (le-ltb _ _ c.if-links-gt-MOST_LINKS.false)
    (or-stops _ c.in_err-nodes_refusal.ensures (names.none_zero _))))

pub returns-in_err-links_refusal : goal.returns-in_err-links_refusal
unfolding chart_values_refusal chart_refusal
returns-in_err-links_refusal c =
    passed _ _ c.from_residual-in_err-links_refusal.ensures.1
    (passes 26 (le-ltb _ _ c.if-nodes-gt-MOST_NODES.false)
    (passes 26 (le-ltb _ _ c.if-links-gt-MOST_LINKS.false)
    (or-passes (sym c.in_ok-nodes_refusal.ensures)
    (or-stops _ c.in_err-links_refusal.ensures (names.none_zero _)))))

pub returns : goal.returns
unfolding chart_values_refusal chart_refusal
returns c =
    let from-fits : c.args.c.from.node.0 ≤ 65535 = omega arith in
    let to-fits : c.args.c.to.node.0 ≤ 65535 = omega arith in
    let keyed : KeyedNodes c.args.c.nodes c.station_keys-keys.result = keyed-of _ _ c.if-nodes-gt-MOST_NODES.false c.station_keys-keys.ensures in
    passes 26 (le-ltb _ _ c.if-nodes-gt-MOST_NODES.false)
    (passes 26 (le-ltb _ _ c.if-links-gt-MOST_LINKS.false)
    (or-passes (sym c.in_ok-nodes_refusal.ensures)
    (or-passes (sym c.in_ok-links_refusal.ensures)
    (c.question_refusal.ensures ∙ question-keyed c.args.c.nodes _ keyed _ c.args.c.from c.args.c.to from-fits to-fits))))
