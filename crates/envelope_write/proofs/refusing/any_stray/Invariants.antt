-- No address before the one that is looked at is out of range.
use mathlib.Core.Path.{◌≡◌}
use mathlib.Core.Bool.{false}
use Rattle.lists.specs.Places.{any_below, element_at}
use Rattle.address.specs.Address.{zero_address}
use Rattle.envelope.specs.Refusal.{stray_at}
use Rattle.envelope_write.proofs.refusing.any_stray.Given as goal

abbrev pub invariant-loop-a : goal.invariant-loop-a
invariant-loop-a l = any_below (stray_at (element_at zero_address l.fn.addresses)) l.a-index ≡ false
