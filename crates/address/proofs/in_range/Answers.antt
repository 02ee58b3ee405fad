-- `address::in_range` meets its contract: the station's range and the port's.
use Rattle.address.specs.Address.{in_range}
use Rattle.address.proofs.in_range.Goals as goal

pub returns : goal.returns
unfolding in_range
returns c = rw (c.station_in_range.ensures, c.station_of.ensures)
