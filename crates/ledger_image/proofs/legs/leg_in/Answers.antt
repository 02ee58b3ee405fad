-- `ledger_image::legs::leg_in` meets its contract: two addresses, two words and a standing, put into `leg_in`.
use Rattle.ledger_image.specs.Leg.{leg_in}
use Rattle.ledger_image.proofs.legs.leg_in.Goals as goal

pub returns : goal.returns
unfolding leg_in
returns c = rw (c.address_in.ensures, c.address_in-2.ensures, c.word_at.ensures, c.word_at-2.ensures, c.standing_of.ensures)
