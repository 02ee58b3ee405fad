-- No link before i leaves by the port.
use mathlib.Core.Path.{◌≡◌}
use mathlib.Core.Bool.{false}
use Rattle.lists.specs.Places.{any_below}
use Rattle.class.specs.Private.{leaves_at}
use Rattle.class.proofs.links.exit_link.Given as goal

abbrev pub invariant-loop-i : goal.invariant-loop-i
invariant-loop-i l = any_below (leaves_at l.fn.links l.s l.p) l.i ≡ false
