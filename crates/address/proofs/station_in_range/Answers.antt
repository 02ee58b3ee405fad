-- `address::station_in_range` meets its contract: the code is the definition.
use mathlib.Core.Path.{refl}
use Rattle.address.specs.Address.{station_in_range}
use Rattle.address.proofs.station_in_range.Goals as goal

pub returns : goal.returns
unfolding station_in_range
returns c = refl
