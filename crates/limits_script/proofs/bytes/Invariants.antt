-- The bytes before i are in the row.
use mathlib.Core.Path.{◌≡◌}
use Rattle.lists.specs.Places.{row}
use Rattle.limits_script.specs.Private.{byte_after}
use Rattle.limits_script.proofs.bytes.Given as goal

abbrev pub invariant-loop-i : goal.invariant-loop-i
invariant-loop-i l = l.all ≡ row 63 0 (byte_after l.v) l.i
