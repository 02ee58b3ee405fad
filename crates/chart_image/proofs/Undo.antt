-- The theorem of a chart's image: chart-undo, from Back and Forth; and a chart with nothing at its unused places comes back as it was.
use Prim.Native.Nat.{ℕ, ◌<◌, ◌≤◌, min}
use mathlib.Core.Path.{◌≡◌, sym, ap, ◌∙◌}
use mathlib.Core.List.{List, ◌++◌}
use native.Mathlib.Omega.{arith}
use lib.ListN.{length}
use Rattle.lists.specs.Places.{element_at}
use Rattle.lists.proofs.Places.{row_at, row-agree, length-row}
use Rattle.chart.specs.declared.ChartNode.{ChartNode}
use Rattle.chart.specs.declared.Chart.{Chart}
use Rattle.chart.specs.Values.{most_nodes, most_links, longest_label, no_node, no_link, node_at, link_at}
use Rattle.chart_write.specs.Writing.{tidy_node, tidy_at, tidy_form, tidy}
use Rattle.chart_image.specs.Image.{chart_image, chart_in}
use Rattle.chart_image.specs.Promises.{used_chart, WholeLabels, ChartUndo}
use Rattle.chart_image.proofs.Laws.{image-size}
use Rattle.chart_image.proofs.Back.{chart-back}
use Rattle.chart_image.proofs.Forth.{chart-forth}

pub chart-undo : ChartUndo
chart-undo = record { size = image-size; read = chart-back; write = chart-forth }

-- ---- a tidy chart within the limits

module _ (c : Chart) (few_nodes : c.nodes.count ≤ most_nodes) (few_links : c.links.count ≤ most_links)
    (short : (i : ℕ) → i < c.nodes.count → (node_at c.nodes i).length ≤ longest_label) where
  tidy-node : (i : ℕ) → i < c.nodes.count → node_at (tidy c).nodes i ≡ tidy_at c.nodes i
  unfolding tidy node_at
  tidy-node i h = sym (row_at 16 no_node (tidy_at c.nodes) c.nodes.count i h)

  tidy-link : (i : ℕ) → i < c.links.count → link_at (tidy c).links i ≡ link_at c.links i
  unfolding tidy link_at
  tidy-link i h = sym (row_at 48 no_link (link_at c.links) c.links.count i h)

  tidy-whole : WholeLabels (tidy c).nodes
  unfolding tidy tidy_at tidy_node
  tidy-whole i h = ap (λ (n : ChartNode). length n.label) (tidy-node i h) ∙ length-row 24 0 (element_at 0 (node_at c.nodes i).label) (node_at c.nodes i).length (short i h)

  tidy-used : used_chart (tidy c) ≡ tidy c
  unfolding used_chart tidy
  tidy-used =
      let n : min c.nodes.count 16 ≡ c.nodes.count = omega arith in
      let m : min c.links.count 48 ≡ c.links.count = omega arith in
      rw (n, m) (λ i. record {
        nodes = record { count = c.nodes.count; items = row-agree 16 no_node (node_at (tidy c).nodes) (tidy_at c.nodes) c.nodes.count tidy-node i };
        links = record { count = c.links.count; form = tidy_form c.links; items = row-agree 48 no_link (link_at (tidy c).links) (link_at c.links) c.links.count tidy-link i };
        from = c.from;
        to = c.to;
      })

  pub tidy-back : (rest : List ℕ) → chart_in (chart_image (tidy c) ++ rest) ≡ tidy c
  tidy-back rest = chart-undo.read (tidy c) rest tidy-whole ∙ tidy-used
