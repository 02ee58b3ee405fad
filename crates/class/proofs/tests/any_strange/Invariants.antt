-- No table before i is another node's.
use mathlib.Core.Path.{◌≡◌}
use mathlib.Core.Bool.{false}
use Rattle.lists.specs.Places.{any_below}
use Rattle.class.specs.Class.{strange_table}
use Rattle.class.specs.Calls.{tables_in}
use Rattle.class.proofs.tests.any_strange.Given as goal

abbrev pub invariant-loop-i : goal.invariant-loop-i
invariant-loop-i l = any_below (strange_table l.fn.nodes (tables_in l.tables)) l.i ≡ false
