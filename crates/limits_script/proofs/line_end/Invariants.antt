-- The line ends where one that begins at i would.
use mathlib.Core.Path.{◌≡◌}
use Rattle.limits_script.specs.Private.{line_end}
use Rattle.limits_script.proofs.line_end.Given as goal

abbrev pub invariant-loop-i : goal.invariant-loop-i
invariant-loop-i l = line_end l.text l.at ≡ line_end l.text l.i
