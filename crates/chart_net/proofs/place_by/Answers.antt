-- `chart_net::place_by` meets its contract: too many nodes are 16, else the node is looked for.
use mathlib.Core.Path.{sym, ◌∙◌}
use Rattle.chart_net.proofs.Places.{place-few, place-many}
use Rattle.chart_net.proofs.place_by.Goals as goal

pub returns-then-nodes-gt-MOST_NODES : goal.returns-then-nodes-gt-MOST_NODES
returns-then-nodes-gt-MOST_NODES c =
    let a = c.args in
    place-many a.nodes a.s c.if-nodes-gt-MOST_NODES.true

pub returns : goal.returns
returns c =
    let a = c.args in
    c.find_node.ensures ∙ sym (place-few a.nodes a.s c.if-nodes-gt-MOST_NODES.false)
