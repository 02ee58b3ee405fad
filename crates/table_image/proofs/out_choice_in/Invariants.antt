-- The image is whole, and no entry before the one that is looked at qualifies.
use Prim.Native.Nat.{◌≤◌}
use mathlib.Core.Path.{◌≡◌}
use mathlib.Core.Bool.{false}
use lib.ListN.{length}
use Rattle.lists.specs.Places.{any_below}
use Rattle.table.specs.Table.{qualifies_at}
use Rattle.table_image.specs.Table.{table_of}
use Rattle.table_image.proofs.out_choice_in.Given as goal

abbrev pub invariant-loop-i : goal.invariant-loop-i
invariant-loop-i l =
    (l.n ≤ 32) × (196 ≤ length l.b) × (any_below (qualifies_at (table_of l.b) l.d l.arrival) l.i ≡ false)
