-- `class::links::leaves_second` meets its contract: its tests are the definition's.
use Rattle.class.specs.Private.{leaves_second}
use Rattle.class.proofs.links.leaves_second.Goals as goal

pub returns : goal.returns
unfolding leaves_second
returns c = rw (c.same_station.ensures, c.station_of.ensures)
