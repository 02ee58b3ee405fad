-- `table_image::table_of` meets its contract: an image that can't be read stands for a table out of range, else it has a count and that many entries.
use mathlib.Core.Path.{◌≡◌, sym, ap, ◌∙◌}
use Rattle.lists.specs.Places.{row}
use Rattle.lists.proofs.Bools.{told-false, told-true}
use Rattle.lists.proofs.Places.{row-none, row_next}
use Rattle.table.specs.Table.{no_entry}
use Rattle.table_image.specs.Table.{entry_count, entry_held}
use Rattle.table_image.proofs.Laws.{readable, table-read, table-unread}
use native.Mathlib.Omega.{arith}
use Rattle.table_image.proofs.table_of.Goals as goal

pub returns-then-not-readable_table : goal.returns-then-not-readable_table
returns-then-not-readable_table c = rw c.no_entry-entries.ensures (table-unread c.args.b.now (told-false c.readable_table.ensures c.if-not-readable_table.true))

pub bounds-b-3 : goal.bounds-b-3
bounds-b-3 c =
    omega (arith, (readable c.args.b.now (told-true c.readable_table.ensures c.if-not-readable_table.false)).long)

pub loop-i-init : goal.loop-i-init
loop-i-init c =
    let b = c.args.b.now in
    let r = readable b (told-true c.readable_table.ensures c.if-not-readable_table.false) in
    (r.few, r.long, rw c.no_entry-entries.ensures (sym (row-none 32 no_entry (entry_held b))))

pub loop-i-preserved : goal.loop-i-preserved
unfolding entry_held
loop-i-preserved c =
    let l = c.loop-i in
    (l.invariant.0, l.invariant.1, rw (c.entry_in.ensures, l.invariant.2) (row_next 32 no_entry (entry_held c.args.b.now) l.i (omega (arith, l.invariant.0))))

pub returns : goal.returns
returns c =
    let l = c.loop-i in
    let b = c.args.b.now in
    let e : l.i ≡ entry_count b = omega arith in
    table-read b (told-true c.readable_table.ensures c.if-not-readable_table.false) (l.invariant.2 ∙ ap (row 32 no_entry (entry_held b)) e) c.word_at.ensures
