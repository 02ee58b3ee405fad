-- The image of a chart, 937 bytes (include/poztecameh.h): node count 1, link count 1, the form of links 1, the question's two stations of 3, then 16 nodes of 28
-- (station 3, label length 1, label 24), then 48 links of 10 (two ends of 4, on 1, direction 1).
use Rattle.std.specs.Prelude.{ℕ, ◌+◌, ◌*◌, min, cond, List, [], ◌∷◌, ◌++◌, eqb, ltb, get_or}
use Rattle.lists.specs.Places.{element_at, firsts, row, joined, up_to}
use Rattle.address_bytes.specs.Wide.{station_bytes, station_in, address_in}
use Rattle.chart.specs.declared.ChartNode.{ChartNode}
use Rattle.chart.specs.declared.Link.{Link}
use Rattle.chart.specs.declared.Chart.{Chart}
use Rattle.chart.specs.Values.{most_nodes, most_links, longest_label, directed, no_node, no_link, node_at, link_at}
use Rattle.chart_read.specs.Fields.{directed_length, bytes_from}
use Rattle.chart_write.specs.Writing.{link_body}

-- where the nodes and the links begin (9, 457), the bytes of each (28, 10), and of the whole (937)
abbrev pub nodes_start : ℕ
nodes_start = 9

abbrev pub node_size : ℕ
node_size = 28

abbrev pub links_start : ℕ
links_start = nodes_start + node_size * most_nodes

abbrev pub link_size : ℕ
link_size = directed_length

abbrev pub chart_image_size : ℕ
chart_image_size = links_start + link_size * most_links

-- ---- a chart put into an image

-- a node's bytes; a link's are those of its field's body in the directed form
unfoldable pub node_image : ChartNode → List ℕ
node_image n = station_bytes n.station ++ ((n.length ∷ []) ++ firsts (element_at 0 n.label) longest_label)

-- all its places, the unused ones zero
unfoldable pub chart_image : Chart → List ℕ
chart_image c =
    (c.nodes.count ∷ c.links.count ∷ c.links.form ∷ [])
    ++ (station_bytes c.from
    ++ (station_bytes c.to
    ++ (joined node_image (up_to c.nodes.count no_node (node_at c.nodes)) most_nodes
    ++ joined (link_body directed) (up_to c.links.count no_link (link_at c.links)) most_links)))

-- ---- the chart in an image

-- the node at a place
unfoldable pub node_held : List ℕ → ℕ → ChartNode
node_held b i =
    let at = nodes_start + node_size * i in
    record { station = station_in b at; length = get_or b (at + 3) 0; label = row longest_label 0 (bytes_from b (at + 4)) longest_label }

-- the link at a place; where its on byte is above 1 a link that is out of range, so that 24 comes in its own field
unfoldable pub link_held : List ℕ → ℕ → Link
link_held b i =
    let at = links_start + link_size * i in
    cond (ltb 1 (get_or b (at + 8) 0)) no_link
    (record { a = address_in b at; b = address_in b (at + 4); on = eqb (get_or b (at + 8) 0) 1; direction = get_or b (at + 9) 0 })

-- places past the counts are not looked at
unfoldable pub chart_in : List ℕ → Chart
chart_in b =
    record {
      nodes = record { count = get_or b 0 0; items = row most_nodes no_node (node_held b) (min (get_or b 0 0) most_nodes) };
      links = record { count = get_or b 1 0; form = get_or b 2 0; items = row most_links no_link (link_held b) (min (get_or b 1 0) most_links) };
      from = station_in b 3;
      to = station_in b 6;
    }
