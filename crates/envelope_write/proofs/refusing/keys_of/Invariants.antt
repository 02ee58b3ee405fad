-- `envelope_write::keys_of` meets its contract. The loop's invariant: the first i keys are in the row.
use mathlib.Core.Path.{◌≡◌}
use Rattle.lists.specs.Places.{row, element_at}
use Rattle.address.specs.Address.{zero_address}
use Rattle.envelope.specs.Private.{key_at}
use Rattle.envelope_write.proofs.refusing.keys_of.Given as goal

abbrev pub invariant-loop-i : goal.invariant-loop-i
invariant-loop-i l = l.keys ≡ row 63 0 (key_at (element_at zero_address l.addresses)) l.i
