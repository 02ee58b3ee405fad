-- `envelope_write::storing::put_addresses` meets its contract. The loop's invariant: the addresses before i are stored.
use mathlib.Core.Path.{◌≡◌}
use lib.ListN.{length}
use lib.Seq.{sets}
use Rattle.lists.specs.Places.{joined, element_at}
use Rattle.address.specs.Address.{zero_address}
use Rattle.address_bytes.specs.Packed.{packed_bytes}
use Rattle.envelope_write.proofs.storing.put_addresses.Given as goal

abbrev pub invariant-loop-i : goal.invariant-loop-i
invariant-loop-i l =
    (l.out ≡ sets l.initial.out l.at (joined packed_bytes (element_at zero_address l.addresses) l.i)) × (length l.out ≡ length l.initial.out)
