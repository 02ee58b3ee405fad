-- No link before i has a number.
use mathlib.Core.Path.{◌≡◌}
use Rattle.lists.specs.Chains.{first_refusal_below}
use Rattle.chart_refuse.specs.Refusal.{link_refusal_at}
use Rattle.chart_refuse.proofs.charts.links_refusal.Given as goal

abbrev pub invariant-loop-i : goal.invariant-loop-i
invariant-loop-i l = first_refusal_below (link_refusal_at l.fn.nodes l.fn.links) l.i ≡ 0
