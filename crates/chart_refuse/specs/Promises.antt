-- What an accepted chart is (document 01, "The chart"), in place of the numbers that refuse the others. proofs/Accepted.antt has the theorem.
use Rattle.std.specs.Prelude.{ℕ, ◌<◌, ◌≤◌, ◌≡◌, true, false, ◌↔◌}
use Rattle.address.specs.Address.{station_of, station_in_range, same_station}
use Rattle.chart.specs.declared.Nodes.{Nodes}
use Rattle.chart.specs.declared.Links.{Links}
use Rattle.chart.specs.declared.Chart.{Chart}
use Rattle.chart.specs.Values.{node_at, link_at, node_in_range, link_in_range, has_node, has_end}
use Rattle.chart_refuse.specs.Refusal.{nodes_before, links_before, chart_refusal}

-- both ends of a link and its direction are in range; the ends stand at nodes of the chart, and at two different ones; no earlier link has either of them
pub record Joins (ns : Nodes) (ls : Links) (i : ℕ) : Type 0 where
  pub ranged : link_in_range ls.form (link_at ls i) ≡ true
  pub a : has_node ns (station_of (link_at ls i).a) ≡ true
  pub b : has_node ns (station_of (link_at ls i).b) ≡ true
  pub apart : same_station (station_of (link_at ls i).a) (station_of (link_at ls i).b) ≡ false
  pub a_once : has_end (links_before ls i) (link_at ls i).a ≡ false
  pub b_once : has_end (links_before ls i) (link_at ls i).b ≡ false

-- few enough; each node in range, its label of at most 24 bytes, at the station of none before it; each link right; both stations of the question in range and
-- written
pub record Accepted (c : Chart) : Type 0 where
  pub few_nodes : c.nodes.count ≤ 16
  pub few_links : c.links.count ≤ 48
  pub short : (i : ℕ) → i < c.nodes.count → (node_at c.nodes i).length ≤ 24
  pub ranged : (i : ℕ) → i < c.nodes.count → node_in_range (node_at c.nodes i) ≡ true
  pub once : (i : ℕ) → i < c.nodes.count → has_node (nodes_before c.nodes i) (node_at c.nodes i).station ≡ false
  pub joins : (i : ℕ) → i < c.links.count → Joins c.nodes c.links i
  pub from_ranged : station_in_range c.from ≡ true
  pub to_ranged : station_in_range c.to ≡ true
  pub from : has_node c.nodes c.from ≡ true
  pub to : has_node c.nodes c.to ≡ true

-- no number refuses a chart exactly if it is that
abbrev pub AcceptedExactly : Type 0
AcceptedExactly = (c : Chart) → (chart_refusal c ≡ 0) ↔ Accepted c
