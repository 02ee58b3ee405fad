-- The ways of the links before i stand in the row, the rest is 0.
use mathlib.Core.Path.{◌≡◌}
use Rattle.lists.specs.Places.{row}
use Rattle.chart_net.specs.Private.{passage_at}
use Rattle.chart_net.proofs.passages_for.Given as goal

abbrev pub invariant-loop-i : goal.invariant-loop-i
invariant-loop-i l = l.ways ≡ row 48 0 (passage_at l.fn.links) l.i
