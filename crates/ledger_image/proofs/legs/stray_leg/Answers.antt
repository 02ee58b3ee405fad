-- `ledger_image::legs::stray_leg` meets its contract: the last three of the 15 bytes decide.
use Rattle.ledger_image.specs.Leg.{stray_leg_in}
use Rattle.ledger_image.proofs.legs.stray_leg.Goals as goal

pub returns : goal.returns
unfolding stray_leg_in
returns c = c.stray_standing.ensures
