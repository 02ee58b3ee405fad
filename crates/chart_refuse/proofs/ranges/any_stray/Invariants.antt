-- `found` says whether a byte before the one that is looked at is stray.
use mathlib.Core.Path.{◌≡◌}
use Rattle.lists.specs.Places.{any_below}
use Rattle.chart.specs.Values.{stray_byte}
use Rattle.chart_refuse.proofs.ranges.any_stray.Given as goal

abbrev pub invariant-loop-x : goal.invariant-loop-x
invariant-loop-x l = l.found ≡ any_below (stray_byte l.fn.label) l.x-index
