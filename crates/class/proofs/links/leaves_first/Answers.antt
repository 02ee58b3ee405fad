-- `class::links::leaves_first` meets its contract: its tests are the definition's.
use Rattle.class.specs.Private.{leaves_first}
use Rattle.class.proofs.links.leaves_first.Goals as goal

pub returns : goal.returns
unfolding leaves_first
returns c = rw (c.same_station.ensures, c.station_of.ensures)
