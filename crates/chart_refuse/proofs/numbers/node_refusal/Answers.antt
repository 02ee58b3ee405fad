-- `chart_refuse::numbers::node_refusal` meets its contract: the tests on the way say which number.
use mathlib.Core.Path.{refl, sym, ap, ◌∙◌}
use mathlib.Core.Bool.{not}
use borrow.Author.Tests.{lt-ltb, le-ltb, le-leb, lt-leb}
use Rattle.lists.proofs.Chains.{stops, passes}
use Rattle.chart.specs.Refusals.{node_refusal_by}
use Rattle.chart_refuse.specs.Private.{node_refusal_by_keys}
use Rattle.chart_refuse.proofs.numbers.node_refusal.Goals as goal

pub returns-then-node-gt-LONGEST_LABEL : goal.returns-then-node-gt-LONGEST_LABEL
unfolding node_refusal_by_keys node_refusal_by
returns-then-node-gt-LONGEST_LABEL c = stops 23 _ (lt-ltb _ _ c.if-node-gt-LONGEST_LABEL.true)

pub returns-then-not-node_in_range : goal.returns-then-not-node_in_range
unfolding node_refusal_by_keys node_refusal_by
returns-then-not-node_in_range c = passes 23 (le-ltb _ _ c.if-node-gt-LONGEST_LABEL.false) (stops 24 _ (ap not (sym c.node_in_range.ensures) ∙ (ap not c.if-not-node_in_range.true)))

pub returns-then-late : goal.returns-then-late
unfolding node_refusal_by_keys node_refusal_by
returns-then-late c = passes 23 (le-ltb _ _ c.if-node-gt-LONGEST_LABEL.false) (passes 24 (ap not (sym c.node_in_range.ensures) ∙ (ap not c.if-not-node_in_range.false)) (stops 25 _ c.if-late.true))

pub returns-then-n : goal.returns-then-n
unfolding node_refusal_by_keys node_refusal_by
returns-then-n c = passes 23 (le-ltb _ _ c.if-node-gt-LONGEST_LABEL.false) (passes 24 (ap not (sym c.node_in_range.ensures) ∙ (ap not c.if-not-node_in_range.false)) (passes 25 c.if-late.false (stops 26 _ (le-leb _ _ c.if-n.true))))

pub returns-then-is_known : goal.returns-then-is_known
unfolding node_refusal_by_keys node_refusal_by
returns-then-is_known c = passes 23 (le-ltb _ _ c.if-node-gt-LONGEST_LABEL.false) (passes 24 (ap not (sym c.node_in_range.ensures) ∙ (ap not c.if-not-node_in_range.false)) (passes 25 c.if-late.false (passes 26 (lt-leb _ _ c.if-n.false) (stops 27 _ (sym c.is_known.ensures ∙ c.if-is_known.true)))))

pub returns : goal.returns
unfolding node_refusal_by_keys node_refusal_by
returns c = passes 23 (le-ltb _ _ c.if-node-gt-LONGEST_LABEL.false) (passes 24 (ap not (sym c.node_in_range.ensures) ∙ (ap not c.if-not-node_in_range.false)) (passes 25 c.if-late.false (passes 26 (lt-leb _ _ c.if-n.false) (passes 27 (sym c.is_known.ensures ∙ c.if-is_known.false) refl))))
