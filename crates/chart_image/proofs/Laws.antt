-- The stores that make a chart's image.
use Prim.Native.Nat.{ℕ, ◌+◌}
use mathlib.Core.Path.{◌≡◌, refl, sym, ap, ◌∙◌}
use mathlib.Core.List.{List, [], ◌∷◌, ◌++◌}
use native.Mathlib.Omega.{arith}
use lib.ListN.{length, length-append}
use lib.Seq.{sets, take_all}
use Rattle.lists.specs.Places.{element_at, firsts, joined, up_to}
use Rattle.lists.proofs.Places.{length-firsts, length-joined}
use Rattle.lists.proofs.Runs.{firsts-take}
use Rattle.lists.proofs.Stores.{sets-append}
use Rattle.address_bytes.specs.Wide.{station_bytes}
use Rattle.chart.specs.declared.ChartNode.{ChartNode}
use Rattle.chart.specs.declared.Chart.{Chart}
use Rattle.chart.specs.Values.{most_nodes, most_links, longest_label, directed, no_node, no_link, node_at, link_at}
use Rattle.chart_write.specs.Writing.{link_body}
use Rattle.chart_write.proofs.Laws.{directed-long}
use Rattle.chart_image.specs.Image.{nodes_start, node_size, links_start, link_size, chart_image_size, node_image, chart_image}

pub length-node : (n : ChartNode) → length (node_image n) ≡ node_size
unfolding node_image
length-node n = rw (length-append, length-firsts (element_at 0 n.label) longest_label)

-- the three stores that make a node's bytes
pub node-stored : (b : List ℕ) (at : ℕ) (n : ChartNode) → length n.label ≡ longest_label
    → sets (sets (sets b at (station_bytes n.station)) (at + 3) (n.length ∷ [])) (at + 4) n.label ≡ sets b at (node_image n)
unfolding node_image
node-stored b at n h =
    let s = station_bytes n.station in
    let e : n.label ≡ firsts (element_at 0 n.label) longest_label = sym (take_all longest_label n.label (omega arith)) ∙ firsts-take 0 n.label longest_label (omega arith) in
    ap (sets (sets (sets b at s) (at + 3) (n.length ∷ [])) (at + 4)) e
    ∙ sets-append (n.length ∷ []) (sets b at s) (at + 3) (firsts (element_at 0 n.label) longest_label) (at + 4) (omega arith)
    ∙ sets-append s b at ((n.length ∷ []) ++ firsts (element_at 0 n.label) longest_label) (at + 3) refl

-- the five stores that make an image
pub chart-stored : (b : List ℕ) (c : Chart)
    → sets (sets (sets (sets (sets b 0 (c.nodes.count ∷ c.links.count ∷ c.links.form ∷ [])) 3 (station_bytes c.from)) 6 (station_bytes c.to)) nodes_start (joined node_image (up_to c.nodes.count no_node (node_at c.nodes)) most_nodes)) links_start (joined (link_body directed) (up_to c.links.count no_link (link_at c.links)) most_links)
    ≡ sets b 0 (chart_image c)
unfolding chart_image
chart-stored b c =
    let x = c.nodes.count ∷ c.links.count ∷ c.links.form ∷ [] in
    let f = station_bytes c.from in
    let t = station_bytes c.to in
    let ns = joined node_image (up_to c.nodes.count no_node (node_at c.nodes)) most_nodes in
    let ls = joined (link_body directed) (up_to c.links.count no_link (link_at c.links)) most_links in
    let e : links_start ≡ nodes_start + length ns = rw (length-joined node_image node_size length-node (up_to c.nodes.count no_node (node_at c.nodes)) most_nodes) refl in
    sets-append ns (sets (sets (sets b 0 x) 3 f) 6 t) nodes_start ls links_start e
    ∙ sets-append t (sets (sets b 0 x) 3 f) 6 (ns ++ ls) nodes_start refl
    ∙ sets-append f (sets b 0 x) 3 (t ++ (ns ++ ls)) 6 refl
    ∙ sets-append x b 0 (f ++ (t ++ (ns ++ ls))) 3 refl

pub image-size : (c : Chart) → length (chart_image c) ≡ chart_image_size
unfolding chart_image
image-size c =
    simp length-append (omega (
      arith,
      length-joined node_image node_size length-node (up_to c.nodes.count no_node (node_at c.nodes)) most_nodes,
      length-joined (link_body directed) link_size directed-long (up_to c.links.count no_link (link_at c.links)) most_links,
    ))
