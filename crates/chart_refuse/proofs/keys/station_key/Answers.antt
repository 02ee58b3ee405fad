-- `chart_refuse::station_key` meets its contract: the sum as it stands.
use mathlib.Core.Path.{refl}
use native.Mathlib.Omega.{arith}
use Rattle.chart_refuse.specs.Private.{station_key}
use Rattle.chart_refuse.proofs.keys.station_key.Goals as goal

pub returns : goal.returns
unfolding station_key
returns c = record { key = refl; node = omega arith }
