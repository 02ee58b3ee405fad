-- The image is whole, and the entries before i are in the row.
use Prim.Native.Nat.{◌≤◌}
use mathlib.Core.Path.{◌≡◌}
use lib.ListN.{length}
use Rattle.lists.specs.Places.{row}
use Rattle.table.specs.Table.{no_entry}
use Rattle.table_image.specs.Table.{entry_count, entry_held}
use Rattle.table_image.proofs.table_of.Given as goal

abbrev pub invariant-loop-i : goal.invariant-loop-i
invariant-loop-i l =
    (entry_count l.b ≤ 32) × (196 ≤ length l.b) × (l.entries ≡ row 32 no_entry (entry_held l.b) l.i)
