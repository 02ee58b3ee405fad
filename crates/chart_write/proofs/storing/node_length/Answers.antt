-- `chart_write::storing::node_length` meets its contract: the station's 3 bytes and the label's.
use Rattle.chart_write.proofs.Laws.{length-node-body}
use native.Mathlib.Omega.{arith}
use Rattle.chart_write.proofs.storing.node_length.Goals as goal

pub returns : goal.returns
returns c = (omega (arith, length-node-body c.args.n), omega arith)
