-- `table::ranges::target_in_range` meets its contract: by cases on the target.
use Rattle.table.specs.Table.{target_in_range}
use Rattle.table.proofs.ranges.target_in_range.Goals as goal

pub returns-in-One : goal.returns-in-One
unfolding target_in_range
returns-in-One c = rw (c.in-One.is, c.station_in_range.ensures)

pub returns-in-Brigade : goal.returns-in-Brigade
unfolding target_in_range
returns-in-Brigade c = rw c.in-Brigade.is

pub returns-in-Everything : goal.returns-in-Everything
unfolding target_in_range
returns-in-Everything c = rw c.in-Everything.is
