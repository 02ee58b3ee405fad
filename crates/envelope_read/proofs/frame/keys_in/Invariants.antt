-- `envelope_read::frame::keys_in` meets its contract. The loop's invariant: the first i keys are in the row.
use mathlib.Core.Path.{◌≡◌}
use Rattle.lists.specs.Places.{row}
use Rattle.envelope.specs.Frame.{destination_at}
use Rattle.envelope.specs.Private.{key_at}
use Rattle.envelope_read.proofs.frame.keys_in.Given as goal

abbrev pub invariant-loop-i : goal.invariant-loop-i
invariant-loop-i l = l.keys ≡ row 63 0 (key_at (destination_at l.part)) l.i
