-- `table_image::readable_table` meets its contract: the length, the count and the entries that count, in turn.
use borrow.Author.Tests.{le-leb, lt-leb}
use Rattle.table_image.specs.Table.{readable_table}
use Rattle.table_image.proofs.readable_table.Goals as goal

pub returns-then-b-lt-TABLE_SIZE : goal.returns-then-b-lt-TABLE_SIZE
unfolding readable_table
returns-then-b-lt-TABLE_SIZE c = rw (lt-leb _ _ c.if-b-lt-TABLE_SIZE.true)

pub returns-then-n-gt-MOST_ENTRIES : goal.returns-then-n-gt-MOST_ENTRIES
unfolding readable_table
returns-then-n-gt-MOST_ENTRIES c = rw (le-leb _ _ c.if-b-lt-TABLE_SIZE.false, lt-leb _ _ c.if-n-gt-MOST_ENTRIES.true)

pub returns : goal.returns
unfolding readable_table
returns c = rw (le-leb _ _ c.if-b-lt-TABLE_SIZE.false, le-leb _ _ c.if-n-gt-MOST_ENTRIES.false, c.any_stray.ensures)
