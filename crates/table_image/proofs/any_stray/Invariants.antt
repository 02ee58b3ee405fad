-- No place before the one that is looked at is stray.
use mathlib.Core.Path.{◌≡◌}
use mathlib.Core.Bool.{false}
use Rattle.lists.specs.Places.{any_below}
use Rattle.table_image.specs.Table.{stray_entry_held}
use Rattle.table_image.proofs.any_stray.Given as goal

abbrev pub invariant-loop-i : goal.invariant-loop-i
invariant-loop-i l = any_below (stray_entry_held l.b) l.i ≡ false
