-- `route_search::hand_over` meets its contract: the route's first links are put at the buffer's start.
use mathlib.Core.Path.{refl}
use Rattle.lists.specs.Refusals.{unless_refused}
use Rattle.route_search.specs.Private.{handed_over}
use Rattle.route_search.proofs.hand_over.Goals as goal

pub returns : goal.returns
unfolding handed_over unless_refused
returns c = (refl, c.put_all.ensures)
