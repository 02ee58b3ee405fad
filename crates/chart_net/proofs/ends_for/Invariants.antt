-- The ends of the links before i stand in the row, the rest is 0.
use mathlib.Core.Path.{◌≡◌}
use mathlib.Core.List.{[], ◌∷◌}
use Rattle.lists.specs.Places.{row}
use Rattle.chart_net.specs.Private.{end_places_at}
use Rattle.chart_net.proofs.ends_for.Given as goal

abbrev pub invariant-loop-i : goal.invariant-loop-i
invariant-loop-i l = l.ends ≡ row 48 (0 ∷ 0 ∷ []) (end_places_at l.fn.nodes l.fn.links) l.i
