-- `chart_write::storing::nodes_size` meets its contract: each node that the loop sees adds its field's size.
use Rattle.chart_write.proofs.Laws.{short-read, past-none, past_next}
use Rattle.chart_write.proofs.storing.nodes_size.Goals as goal

pub loop-n-init : goal.loop-n-init
loop-n-init c = past-none c.args.nodes

pub node_length-requires : goal.node_length-requires
node_length-requires c = short-read c.args.nodes c.requires _ c.loop-n.n-index c.loop-n-test.true

pub loop-n-preserved : goal.loop-n-preserved
loop-n-preserved c = past_next c.args.nodes _ c.loop-n.n-index c.loop-n.size _ c.loop-n-test.true c.node_length.ensures c.loop-n.invariant
