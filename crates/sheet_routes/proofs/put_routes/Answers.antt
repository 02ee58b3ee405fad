-- `sheet_routes::put_routes` meets its contract: where no others follow the first 32 they are all; else the first 1,000 are listed.
use mathlib.Core.Path.{refl}
use mathlib.Core.Logic.{inl, inr}
use native.Mathlib.Omega.{arith}
use Rattle.lists.proofs.Bools.{no-not}
use Rattle.text.proofs.Joining.{said}
use Rattle.route_list.specs.Listing.{slot_room}
use Rattle.sheet_routes.proofs.Slots.{known-zeros}
use Rattle.sheet_routes.proofs.put_routes.Goals as goal

pub put_listed-requires : goal.put_listed-requires
unfolding slot_room
put_listed-requires c =
    let a = c.args in
    let l = c.list in
    let u = c.unwrap_or-l in
    let k = known-zeros a.ends a.ways a.links a.from a.to 512 32 refl (omega arith) _ l.result u.result u.ensures l.ensures.value l.ensures.bytes in
    k.slotted

pub returns-then-not-l : goal.returns-then-not-l
unfolding slot_room
returns-then-not-l c =
    let a = c.args in
    let l = c.list in
    let u = c.unwrap_or-l in
    let k = known-zeros a.ends a.ways a.links a.from a.to 512 32 refl (omega arith) _ l.result u.result u.ensures l.ensures.value l.ensures.bytes in
    said (k.text (inr (no-not _ c.if-not-l.true, omega arith))) c.put_listed.ensures

pub put_listed-requires-2 : goal.put_listed-requires-2
unfolding slot_room
put_listed-requires-2 c =
    let a = c.args in
    let l = c.list-2 in
    let u = c.unwrap_or-l-2 in
    let k = known-zeros a.ends a.ways a.links a.from a.to 16000 1000 refl (omega arith) _ l.result u.result u.ensures l.ensures.value l.ensures.bytes in
    k.slotted

pub returns : goal.returns
unfolding slot_room
returns c =
    let a = c.args in
    let l = c.list-2 in
    let u = c.unwrap_or-l-2 in
    let k = known-zeros a.ends a.ways a.links a.from a.to 16000 1000 refl (omega arith) _ l.result u.result u.ensures l.ensures.value l.ensures.bytes in
    said (k.text (inl refl)) c.put_listed-2.ensures
