-- `route_fewest::first_links` meets its contract: the table is that of the net, whichever node is asked for.
use native.Mathlib.Omega.{arith}
use Rattle.route_links.proofs.Table.{table-holds}
use Rattle.route_fewest.proofs.Aiming.{fill-starts, fill-turns, fill-ends, first-links-none}
use Rattle.route_fewest.proofs.first_links.Goals as goal

pub returns-then-from-ge-MOST_NODES : goal.returns-then-from-ge-MOST_NODES
returns-then-from-ge-MOST_NODES c = let a = c.args in first-links-none a.ends a.ways a.links a.nodes a.from c.if-from-ge-MOST_NODES.true

pub loop-to-init : goal.loop-to-init
loop-to-init c = fill-starts _ _

pub first_link-requires : goal.first_link-requires
first_link-requires c =
    let a = c.args in
    let t = c.links_by_node-t in
    record { walkable = (table-holds a.ends a.ways a.links 0 t.result t.ensures).walkable; from_node = omega arith; to_node = omega arith }

pub loop-to-preserved : goal.loop-to-preserved
loop-to-preserved c =
    let l = c.loop-to in
    fill-turns _ _ l.first l.to l.invariant (omega arith) c.first_link.result c.first_link.ensures

pub returns : goal.returns
returns c =
    let a = c.args in
    let l = c.loop-to in
    let t = c.links_by_node-t in
    fill-ends t.result a.from l.first l.to l.invariant (omega arith) a.ends a.ways a.links a.nodes t.ensures (omega arith)
