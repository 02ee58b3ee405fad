-- `route_list::list` meets its contract: 26, 28 and 42 in their turn, 43 where no route leads from the first node; else the walk over the table counts the
-- routes and writes as many as there is room for.
use Prim.Native.Nat.{◌*◌, min}
use mathlib.Core.Path.{sym, ap}
use native.Mathlib.Omega.{arith}
use borrow.Author.Tests.{not-true, not-false}
use lib.Dec.{ltb}
use lib.ListN.{length}
use lib.Seq.{length-take-le}
use Rattle.std.specs.Prelude.{Ok, Err}
use Rattle.refusal.specs.declared.Refusal.TheVariants.{ChartCrowd, ChartStranger, NoRouteRoom, NoRoute}
use Rattle.route_links.proofs.Table.{table-holds}
use Rattle.route_list.proofs.Telling.{room_fits, room_small, list-many, list-placeless, list-roomless, list-nowhere, lists, listed-answer}
use Rattle.route_list.proofs.Turns.{start-walking}
use mathlib.Core.Bool.{not}
use Rattle.route_list.proofs.list.Goals as goal

pub returns-then-links : goal.returns-then-links
returns-then-links c =
    let a = c.args in
    let w = list-many a.ends a.ways a.links a.from a.to a.out.now c.if-links.true in
    record { value = w.0; bytes = w.1; answer = listed-answer (Err ChartCrowd) _ _ _ w.0 }

pub returns-then-from-ge-MOST_NODES : goal.returns-then-from-ge-MOST_NODES
returns-then-from-ge-MOST_NODES c =
    let a = c.args in
    let w = list-placeless a.ends a.ways a.links a.from a.to a.out.now c.if-links.false c.if-from-ge-MOST_NODES.true in
    record { value = w.0; bytes = w.1; answer = listed-answer (Err ChartStranger) _ _ _ w.0 }

pub returns-then-room-eq0 : goal.returns-then-room-eq0
returns-then-room-eq0 c =
    let a = c.args in
    let r = c.slot_room-room in
    let w = list-roomless a.ends a.ways a.links a.from a.to a.out.now c.if-links.false c.if-from-ge-MOST_NODES.false r.result r.ensures c.if-room-eq0.true in
    record { value = w.0; bytes = w.1; answer = listed-answer (Err NoRouteRoom) _ _ _ w.0 }

pub returns-then-not-reaches : goal.returns-then-not-reaches
returns-then-not-reaches c =
    let g = c.reaches in
    let t = c.links_by_node-t in
    let r = c.slot_room-room in
    let a = c.args in
    let w = list-nowhere a.ends a.ways a.links a.from a.to a.out.now c.if-links.false c.if-from-ge-MOST_NODES.false r.result r.ensures
    c.if-room-eq0.false t.result t.ensures g.result g.ensures (not-true _ (ap not c.if-not-reaches.true)) in
    record { value = w.0; bytes = w.1; answer = listed-answer (Err NoRoute) _ _ _ w.0 }

pub overflow_mul-room : goal.overflow_mul-room
overflow_mul-room c =
    let l = room_small (length c.args.out.now) in
    let e = c.slot_room-room.ensures in
    record { fits = omega arith }

pub slice_bounds-walk_on-end : goal.slice_bounds-walk_on-end
slice_bounds-walk_on-end c =
    let l = room_fits (length c.args.out.now) in
    let e = c.slot_room-room.ensures in
    omega arith

pub slice_bounds-walk_on-end-2 : goal.slice_bounds-walk_on-end-2
slice_bounds-walk_on-end-2 c =
    let l = room_fits (length c.args.out.now) in
    let e = c.slot_room-room.ensures in
    sym (length-take-le (16 * c.slot_room-room.result) c.args.out.now (omega arith))

pub walk_on-n-requires : goal.walk_on-n-requires
walk_on-n-requires c =
    let a = c.args in
    let t = c.links_by_node-t in
    let g = c.reaches in
    start-walking t.result a.from _ g.result (table-holds a.ends a.ways a.links a.to t.result t.ensures).walkable c.if-from-ge-MOST_NODES.false g.ensures (not-false _ (ap not c.if-not-reaches.false))

pub returns : goal.returns
returns c =
    let a = c.args in
    let t = c.links_by_node-t in
    let r = c.slot_room-room in
    let g = c.reaches in
    let w = c.walk_on-n in
    let u = lists a.ends a.ways a.links a.from a.to a.out.now c.if-links.false c.if-from-ge-MOST_NODES.false r.result r.ensures c.if-room-eq0.false t.result t.ensures
    (record { bytes = w.new.out; count = w.result }) w.ensures g.result g.ensures (not-false _ (ap not c.if-not-reaches.false)) in
    let m = listed-answer (Ok (record { count = min w.result r.result; more = ltb r.result w.result })) _ _ _ u.0 in
    record { value = (u.0.0, rw c.min.ensures u.0.1); bytes = u.1; answer = rw c.min.ensures m }
