-- `route_ahead::reaches` meets its contract: the empty route leads from the goal to itself; from another node a route begins with a link that the look ahead
-- keeps.
use mathlib.Core.Path.{refl}
use Rattle.route_ahead.proofs.Going.{here-reaches, kept-reaches, reaches-kept}
use Rattle.route_ahead.proofs.reaches.Goals as goal

pub returns-then-from-t : goal.returns-then-from-t
returns-then-from-t c = λ T l. (λ e. here-reaches _ _ c.if-from-t.true, λ w. refl)

pub returns : goal.returns
returns c =
    λ T l. (
      λ e. kept-reaches _ _ _ T l c.if-from-t.false c.ahead.ensures e,
      λ w. reaches-kept _ _ _ T l c.if-from-t.false c.ahead.ensures w,
    )
