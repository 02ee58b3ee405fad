-- The bytes from i on make the line's numbers of those read so far.
use Prim.Native.Nat.{◌<◌}
use mathlib.Core.Path.{◌≡◌}
use lib.ListN.{drop}
use Rattle.limits_script.specs.Private.{numbers_of, numbers_from}
use Rattle.limits_script.proofs.numbers.Given as goal

abbrev pub invariant-loop-i : goal.invariant-loop-i
invariant-loop-i l = (l.k < 64) × (numbers_of l.line ≡ numbers_from l.v l.k (drop l.i l.line))
