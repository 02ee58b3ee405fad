-- `address::same_station` meets its contract: equality of each field.
use Rattle.address.specs.Address.{same_station}
use Rattle.address.proofs.same_station.Goals as goal

pub returns : goal.returns
unfolding same_station
returns c = c.eq.ensures
