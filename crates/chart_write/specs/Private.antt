-- What the code that stores a chart's bytes asks.
use Rattle.std.specs.Prelude.{ℕ, ◌≤◌, ◌<◌}
use Rattle.chart.specs.declared.Nodes.{Nodes}
use Rattle.chart.specs.Values.{most_nodes, longest_label, node_at}

-- the longest body whose length two bytes can say
abbrev pub longest_body : ℕ
longest_body = 65535

-- at most 16 nodes with labels of at most 24 bytes
pub record Short (ns : Nodes) : Type 0 where
  pub few : ns.count ≤ most_nodes
  pub short : (i : ℕ) → i < ns.count → (node_at ns i).length ≤ longest_label
