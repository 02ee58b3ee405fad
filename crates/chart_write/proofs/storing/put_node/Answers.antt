-- `chart_write::storing::put_node` meets its contract: the head, then the station, and the label after it.
use Prim.Native.Nat.{◌+◌, ◌≤◌}
use native.Mathlib.Omega.{arith}
use lib.ListN.{length}
use Rattle.chart_read.specs.Fields.{shortest_node}
use Rattle.chart_write.specs.Writing.{head_size}
use Rattle.chart_write.proofs.Laws.{length-node, length-node-body, node-put}
use Rattle.chart_write.proofs.storing.put_node.Goals as goal

pub put_head-requires : goal.put_head-requires
put_head-requires c =
    let fits : c.args.at + head_size + shortest_node + c.args.n.length ≤ length c.args.out.now = omega (arith, c.requires.1, length-node c.args.n, length-node-body c.args.n) in
    (omega (arith, fits), omega (arith, c.node_length.ensures.1))

pub returns : goal.returns
returns c =
    let a = c.args in
    node-put a.n _ a.out.now _ _ _ _ a.at c.node_length.ensures.0 c.put_head.ensures c.station_bytes-s.ensures c.put_all.ensures c.put_label.ensures
