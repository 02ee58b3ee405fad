-- `chart_write::storing::put_nodes` meets its contract: each node that the loop sees is stored past those before it.
use mathlib.Core.Path.{refl, ◌∙◌}
use native.Mathlib.Omega.{arith}
use Rattle.lists.proofs.Places.{joined-none}
use Rattle.lists.proofs.Runs.{joined-put}
use Rattle.chart.specs.Values.{node_at}
use Rattle.chart.proofs.Laws.{node-taken}
use Rattle.chart_write.specs.Writing.{node_field}
use Rattle.chart_write.proofs.Laws.{short-read, past-none, past_next, node-fits}
use Rattle.chart_write.proofs.storing.put_nodes.Goals as goal

pub loop-n-init : goal.loop-n-init
loop-n-init c = record { past = past-none c.args.nodes; stored = rw (joined-none node_field (node_at c.args.nodes)) refl }

pub put_node-requires : goal.put_node-requires
put_node-requires c =
    let l = c.loop-n in
    let h = c.loop-n-test.true in
    (short-read c.args.nodes c.requires.0 _ l.n-index h, node-fits c.args.nodes _ l.n-index l.at _ h l.invariant.past (omega (arith, c.requires.1)))

pub node_length-requires : goal.node_length-requires
node_length-requires c = short-read c.args.nodes c.requires.0 _ c.loop-n.n-index c.loop-n-test.true

pub loop-n-preserved : goal.loop-n-preserved
loop-n-preserved c =
    let nodes = c.args.nodes in
    let l = c.loop-n in
    let h = c.loop-n-test.true in
    record {
      past = past_next nodes _ l.n-index l.at _ h c.node_length.ensures l.invariant.past;
      stored = c.put_node.ensures ∙ joined-put node_field (node_at nodes) c.args.out.now _ 0 l.at l.n-index (node-taken nodes _ nodes.count l.n-index h) (omega (arith, l.invariant.past.0)) l.invariant.stored;
    }
