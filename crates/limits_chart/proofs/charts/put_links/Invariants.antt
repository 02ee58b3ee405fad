-- `limits_chart::charts::put_links` is safe: a link has 12 bytes.
use Rattle.std.proofs.Common.{◌≤◌, ◌+◌, ◌*◌}
use Rattle.limits_chart.proofs.charts.put_links.Given as goal

abbrev pub invariant-loop-i : goal.invariant-loop-i
invariant-loop-i l = l.at ≤ 80000 + 12 * l.i
