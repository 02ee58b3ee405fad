-- A chart put into an image is taken from it again, and an image's bytes are those of the chart that is taken from it. proofs/Undo.antt has the theorem.
use Rattle.std.specs.Prelude.{ℕ, ◌+◌, ◌*◌, ◌-◌, ◌<◌, ◌≤◌, min, ◌≡◌, List, ◌++◌, length, get_or, take, drop, replicate}
use Rattle.lists.specs.Places.{row}
use Rattle.buffer.specs.Bytes.{Bytes}
use Rattle.chart.specs.declared.Nodes.{Nodes}
use Rattle.chart.specs.declared.Chart.{Chart}
use Rattle.chart.specs.Values.{most_nodes, most_links, longest_label, no_node, no_link, node_at, link_at}
use Rattle.chart_image.specs.Image.{nodes_start, node_size, links_start, link_size, chart_image_size, chart_image, chart_in}

-- ---- what is left of a chart in an image

-- the chart with nothing at its unused places, those past its counts; above the limits all places are used
unfoldable pub used_chart : Chart → Chart
used_chart c =
    record {
      nodes = record { count = c.nodes.count; items = row most_nodes no_node (node_at c.nodes) (min c.nodes.count most_nodes) };
      links = record { count = c.links.count; form = c.links.form; items = row most_links no_link (link_at c.links) (min c.links.count most_links) };
      from = c.from;
      to = c.to;
    }

-- each label is a row of 24 bytes, as every node's is in the code
abbrev pub WholeLabels : Nodes → Type 0
WholeLabels ns = (i : ℕ) → i < ns.count → length (node_at ns i).label ≡ longest_label

-- ---- what is left of an image in a chart

-- the image with zeros at its unused places
unfoldable pub used_image : List ℕ → List ℕ
used_image b =
    let n = min (get_or b 0 0) most_nodes in
    let m = min (get_or b 1 0) most_links in
    take (nodes_start + node_size * n) b
    ++ (replicate (node_size * (most_nodes - n)) 0
    ++ (take (link_size * m) (drop links_start b)
    ++ replicate (link_size * (most_links - m)) 0))

-- the on byte of each link that is used is 0 or 1
abbrev pub OnBytes : List ℕ → Type 0
OnBytes b = (i : ℕ) → i < get_or b 1 0 → i < most_links → get_or b (links_start + link_size * i + 8) 0 ≤ 1

-- ---- both ways

-- a chart and its image undo each other
pub record ChartUndo : Type 0 where
  pub size : (c : Chart) → length (chart_image c) ≡ chart_image_size
  -- reading undoes writing, of any chart; the image may be longer
  pub read : (c : Chart) (rest : List ℕ) → WholeLabels c.nodes → chart_in (chart_image c ++ rest) ≡ used_chart c
  -- writing undoes reading, of any image of bytes that is long enough
  pub write : (b : List ℕ) → Bytes b → chart_image_size ≤ length b → OnBytes b → chart_image (chart_in b) ≡ used_image b
