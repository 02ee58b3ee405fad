-- `limits_chart::charts::put_nodes` is safe: a node has at most 261 bytes.
use Rattle.std.proofs.Common.{◌≤◌, ◌*◌}
use Rattle.limits_chart.proofs.charts.put_nodes.Given as goal

abbrev pub invariant-loop-i : goal.invariant-loop-i
invariant-loop-i l = l.at ≤ 261 * l.i
