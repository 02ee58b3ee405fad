-- `table::ranges::table_in_range` meets its contract: a count past the last place decides, else the own station and the entries.
use mathlib.Core.Path.{sym}
use borrow.Author.Tests.{le-leb, lt-leb}
use Rattle.lists.proofs.Bools.{and-no-left}
use Rattle.table.specs.Table.{table_in_range}
use Rattle.table.proofs.ranges.table_in_range.Goals as goal

pub returns-then-t-gt-MOST_ENTRIES : goal.returns-then-t-gt-MOST_ENTRIES
unfolding table_in_range
returns-then-t-gt-MOST_ENTRIES c = sym (and-no-left _ (and-no-left _ (lt-leb _ _ c.if-t-gt-MOST_ENTRIES.true)))

pub returns : goal.returns
unfolding table_in_range
returns c = rw (le-leb _ _ c.if-t-gt-MOST_ENTRIES.false, c.station_in_range.ensures, c.own_station.ensures, c.any_stray.ensures)
