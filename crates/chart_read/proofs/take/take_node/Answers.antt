-- `chart_read::take::take_node` meets its contract: where the body's number is 0 there is room, and its key stands in the next place.
use mathlib.Core.Path.{sym}
use native.Mathlib.Omega.{arith}
use Rattle.refusal.proofs.Passed.{passed, passed-bad}
use Rattle.chart_read.specs.Reading.{body_refusal}
use Rattle.chart_read.specs.Private.{refusing_by, with_node_key, keys_with}
use Rattle.chart_read.proofs.Laws.{node-bounds}
use Rattle.chart_read.proofs.Taking.{takes_none, takes_one, node-room}
use Rattle.chart_read.proofs.take.take_node.Goals as goal

pub returns-in_err-node_body_refusal : goal.returns-in_err-node_body_refusal
unfolding body_refusal refusing_by
returns-in_err-node_body_refusal c =
    let h = c.from_residual.ensures.1 in
    takes_none c.args.keys.now 1 c.args.b.now _ (passed _ _ h c.in_err-node_body_refusal.ensures) (passed-bad _ _ h)

pub node_in-node-requires : goal.node_in-node-requires
node_in-node-requires c =
    let p = node-bounds _ _ (sym c.in_ok-node_body_refusal.ensures) in (p.0, p.1)

pub offset_bounds-keys-n : goal.offset_bounds-keys-n
offset_bounds-keys-n c = record { fits = omega (arith, node-room _ _ _ _ (sym c.in_ok-node_body_refusal.ensures)) }

pub bounds-keys-n : goal.bounds-keys-n
bounds-keys-n c = node-room _ _ _ _ (sym c.in_ok-node_body_refusal.ensures)

pub overflow_add-keys : goal.overflow_add-keys
overflow_add-keys c = record { fits = omega (arith, node-room _ _ _ _ (sym c.in_ok-node_body_refusal.ensures)) }

pub returns : goal.returns
unfolding body_refusal refusing_by keys_with with_node_key
returns c =
    takes_one c.args.keys.now 1 c.args.b.now (sym c.in_ok-node_body_refusal.ensures) _ (rw (c.station_key.ensures.key, c.node_in-node.ensures))
