-- No table before i is out of range.
use mathlib.Core.Path.{◌≡◌}
use mathlib.Core.Bool.{false}
use Rattle.lists.specs.Places.{any_below}
use Rattle.class.specs.Class.{stray_table}
use Rattle.class.specs.Calls.{tables_in}
use Rattle.class.proofs.tests.any_stray.Given as goal

abbrev pub invariant-loop-i : goal.invariant-loop-i
invariant-loop-i l = any_below (stray_table (tables_in l.tables)) l.i ≡ false
