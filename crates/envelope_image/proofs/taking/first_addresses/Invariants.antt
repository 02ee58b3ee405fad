-- `envelope_image::first_addresses` meets its contract. The loop's invariant: the first i destinations are in the row.
use mathlib.Core.Path.{◌≡◌}
use Rattle.lists.specs.Places.{row}
use Rattle.address.specs.Address.{zero_address}
use Rattle.envelope_image.specs.Image.{destination_held}
use Rattle.envelope_image.proofs.taking.first_addresses.Given as goal

abbrev pub invariant-loop-i : goal.invariant-loop-i
invariant-loop-i l = l.addresses ≡ row 63 zero_address (destination_held l.b) l.i
