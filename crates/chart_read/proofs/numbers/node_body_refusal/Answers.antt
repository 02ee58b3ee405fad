-- `chart_read::numbers::node_body_refusal` meets its contract: the length decides, then the node's own number.
use mathlib.Core.Path.{ap, ◌∙◌}
use borrow.Author.Tests.{lt-ltb, le-ltb}
use Rattle.lists.proofs.Chains.{stops, passes}
use Rattle.chart_refuse.specs.Private.{node_refusal_by_keys}
use Rattle.chart_read.specs.Reading.{node_body_refusal}
use Rattle.chart_read.proofs.numbers.node_body_refusal.Goals as goal

pub returns-then-b-lt-SHORTEST_NODE : goal.returns-then-b-lt-SHORTEST_NODE
unfolding node_body_refusal
returns-then-b-lt-SHORTEST_NODE c = stops 23 _ (lt-ltb _ _ c.if-b-lt-SHORTEST_NODE.true)

pub returns-then-b-gt-LONGEST_NODE : goal.returns-then-b-gt-LONGEST_NODE
unfolding node_body_refusal
returns-then-b-gt-LONGEST_NODE c = passes 23 (le-ltb _ _ c.if-b-lt-SHORTEST_NODE.false) (stops 23 _ (lt-ltb _ _ c.if-b-gt-LONGEST_NODE.true))

pub returns : goal.returns
unfolding node_body_refusal
returns c =
    passes 23 (le-ltb _ _ c.if-b-lt-SHORTEST_NODE.false)
    (passes 23 (le-ltb _ _ c.if-b-gt-LONGEST_NODE.false)
    (c.node_refusal.ensures ∙ ap (node_refusal_by_keys c.args.late c.args.keys.now c.args.n) c.node_in-node.ensures))
