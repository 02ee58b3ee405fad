-- `envelope_image::addresses_in` meets its contract: the count, or 63 where that is less.
use mathlib.Core.Path.{◌∙◌}
use Rattle.envelope_image.specs.Image.{fields_in}
use Rattle.envelope_image.proofs.taking.addresses_in.Goals as goal

pub returns : goal.returns
unfolding fields_in
returns c = c.first_addresses.ensures ∙ rw (c.min-n.ensures, c.byte_at.ensures)
