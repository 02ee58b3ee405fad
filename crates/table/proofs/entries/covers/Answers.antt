-- `table::entries::covers` meets its contract: by cases on the target.
use Rattle.table.specs.Table.{covers}
use Rattle.table.proofs.entries.covers.Goals as goal

pub returns-in-One : goal.returns-in-One
unfolding covers
returns-in-One c = rw (c.in-One.is, c.same_station.ensures, c.station_of.ensures)

pub returns-in-Brigade : goal.returns-in-Brigade
unfolding covers
returns-in-Brigade c = rw c.in-Brigade.is

pub returns-in-Everything : goal.returns-in-Everything
unfolding covers
returns-in-Everything c = rw c.in-Everything.is
