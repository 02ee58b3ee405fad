-- `chart_refuse::end_key` meets its contract: the sum as it stands.
use mathlib.Core.Path.{refl}
use native.Mathlib.Omega.{arith}
use Rattle.chart_refuse.specs.Private.{end_key}
use Rattle.chart_refuse.proofs.keys.end_key.Goals as goal

pub returns : goal.returns
unfolding end_key
returns c = record { key = refl; node = omega arith; port = omega arith }
