-- The entries before i are stored.
use mathlib.Core.Path.{◌≡◌}
use lib.Seq.{sets}
use Rattle.lists.specs.Places.{joined}
use Rattle.table.specs.Table.{entry_at}
use Rattle.table_image.specs.Table.{entries_start, entry_bytes}
use Rattle.table_image.proofs.put_entries.Given as goal

abbrev pub invariant-loop-i : goal.invariant-loop-i
invariant-loop-i l = l.image ≡ sets l.initial.image entries_start (joined entry_bytes (entry_at l.fn.t) l.i)
