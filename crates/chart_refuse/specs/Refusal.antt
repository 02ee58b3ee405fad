-- The number of a chart given as values (document 01, "The chart"; document 02, Five): the counts first, then the number of the first bad value. 0 where it is accepted.
use Rattle.std.specs.Prelude.{ℕ, false, ltb}
use Rattle.lists.specs.Refusals.{refuse, or_else}
use Rattle.lists.specs.Chains.{first_refusal_below}
use Rattle.chart.specs.declared.Nodes.{Nodes}
use Rattle.chart.specs.declared.Links.{Links}
use Rattle.chart.specs.declared.Chart.{Chart}
use Rattle.chart.specs.Values.{most_nodes, most_links, node_at, link_at}
use Rattle.chart.specs.Refusals.{node_refusal, link_refusal, question_refusal}

-- the nodes before a place, and the links before one
abbrev pub nodes_before : Nodes → ℕ → Nodes
nodes_before ns i = record { count = i; items = ns.items }

abbrev pub links_before : Links → ℕ → Links
links_before ls i = record { count = i; form = ls.form; items = ls.items }

-- the number of the node at a place, after those before it
unfoldable pub node_refusal_at : Nodes → ℕ → ℕ
node_refusal_at ns i = node_refusal false (nodes_before ns i) (node_at ns i)

-- the number of the link at a place, after all nodes and the links before it
unfoldable pub link_refusal_at : Nodes → Links → ℕ → ℕ
link_refusal_at ns ls i = link_refusal false ls.form ns (links_before ls i) (link_at ls i)

-- the first bad value decides: nodes, then links, then the question
unfoldable pub chart_values_refusal : Chart → ℕ
chart_values_refusal c =
    or_else (first_refusal_below (node_refusal_at c.nodes) c.nodes.count)
    (or_else (first_refusal_below (link_refusal_at c.nodes c.links) c.links.count)
    (question_refusal false c.nodes c.from c.to))

-- the counts first
unfoldable pub chart_refusal : Chart → ℕ
chart_refusal c =
    refuse 26 (ltb most_nodes c.nodes.count)
    (refuse 26 (ltb most_links c.links.count)
    (chart_values_refusal c))
