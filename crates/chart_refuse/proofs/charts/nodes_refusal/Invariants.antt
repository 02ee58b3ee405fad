-- No node before i has a number.
use mathlib.Core.Path.{◌≡◌}
use Rattle.lists.specs.Chains.{first_refusal_below}
use Rattle.chart_refuse.specs.Refusal.{node_refusal_at}
use Rattle.chart_refuse.proofs.charts.nodes_refusal.Given as goal

abbrev pub invariant-loop-i : goal.invariant-loop-i
invariant-loop-i l = first_refusal_below (node_refusal_at l.fn.nodes) l.i ≡ 0
