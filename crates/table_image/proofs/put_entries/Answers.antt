-- `table_image::put_entries` meets its contract: the entries that the loop sees are the table's own.
use mathlib.Core.Path.{◌≡◌, ◌∙◌}
use native.Mathlib.Omega.{arith}
use lib.ListN.{length}
use Rattle.lists.proofs.Places.{joined-none}
use Rattle.lists.proofs.Runs.{joined-put-row}
use Rattle.table.specs.Table.{most_entries, entry_at}
use Rattle.table_image.specs.Table.{entries_start, entry_size, entry_bytes}
use Rattle.table_image.proofs.Laws.{length-entry, entry_read}
use borrow.Author.Rules.{rules}
use Rattle.table_image.proofs.put_entries.Goals as goal

pub loop-i-init : goal.loop-i-init
loop-i-init c = rw joined-none

pub loop-i-preserved : goal.loop-i-preserved
loop-i-preserved c =
    let t = c.args.t in
    let whole : length t.entries ≡ most_entries = search rules in
    let l = c.loop-i in
    rw c.entry_bytes.ensures at c.put_all.ensures
    ∙ joined-put-row entry_bytes (entry_at t) entry_size length-entry c.args.image.now _ entries_start l.i (entry_read t _ l.i (omega (arith, whole))) l.invariant
