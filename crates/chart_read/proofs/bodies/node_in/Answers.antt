-- `chart_read::bodies::node_in` meets its contract: the station, and the bytes after it.
use native.Mathlib.Omega.{arith}
use Rattle.chart_read.specs.Fields.{node_in}
use Rattle.chart_read.proofs.Laws.{station-within}
use Rattle.chart_read.proofs.bodies.node_in.Goals as goal

pub returns : goal.returns
unfolding node_in
returns c = rw (c.station_in.ensures, station-within 3 c.args.b.now 0 (omega arith), c.label_in.ensures)
