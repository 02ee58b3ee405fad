-- `envelope_read::addresses::read_addresses` meets its contract. The loop's invariant: the first i destinations are in the row.
use mathlib.Core.Path.{◌≡◌}
use Rattle.lists.specs.Places.{row}
use Rattle.address.specs.Address.{zero_address}
use Rattle.envelope.specs.Frame.{destination_at}
use Rattle.envelope_read.proofs.addresses.read_addresses.Given as goal

abbrev pub invariant-loop-i : goal.invariant-loop-i
invariant-loop-i l = l.addresses ≡ row 63 zero_address (destination_at l.part) l.i
