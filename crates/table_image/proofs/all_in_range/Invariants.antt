-- No place before the one that is looked at is out of range.
use mathlib.Core.Path.{◌≡◌}
use mathlib.Core.Bool.{false}
use Rattle.lists.specs.Places.{any_below}
use Rattle.table_image.specs.Private.{unranged_held}
use Rattle.table_image.proofs.all_in_range.Given as goal

abbrev pub invariant-loop-i : goal.invariant-loop-i
invariant-loop-i l = any_below (unranged_held l.b) l.i ≡ false
