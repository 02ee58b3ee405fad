-- `chart_refuse::ranges::end_in_range` meets its contract: its port, and the address.
use mathlib.Core.Path.{ap}
use mathlib.Core.Bool.{Bool, ◌&&◌}
use lib.Dec.{leb}
use Rattle.chart.specs.Values.{end_in_range}
use Rattle.chart_refuse.proofs.ranges.end_in_range.Goals as goal

pub returns : goal.returns
unfolding end_in_range
returns c = ap (λ (b : Bool). leb 1 c.args.e.port.0 && b) c.in_range.ensures
