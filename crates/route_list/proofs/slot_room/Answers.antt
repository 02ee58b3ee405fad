-- `route_list::slot_room` meets its contract: at most 4,095 slots.
use mathlib.Core.Path.{◌∙◌}
use Rattle.route_list.proofs.Stowing.{room-least}
use Rattle.route_list.proofs.slot_room.Goals as goal

pub returns : goal.returns
returns c = c.min.ensures ∙ room-least c.args.n
