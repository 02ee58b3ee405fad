-- No entry before the one that is looked at is out of range.
use mathlib.Core.Path.{◌≡◌}
use mathlib.Core.Bool.{false}
use Rattle.lists.specs.Places.{any_below}
use Rattle.table.specs.Table.{stray_entry}
use Rattle.table.proofs.ranges.any_stray.Given as goal

abbrev pub invariant-loop-e : goal.invariant-loop-e
invariant-loop-e l = any_below (stray_entry l.fn.t) l.e-index ≡ false
