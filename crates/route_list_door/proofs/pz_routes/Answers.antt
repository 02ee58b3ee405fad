-- `route_list_door::pz_routes` meets its contract: the reader's number leaves the slots; else the list over what is kept of the chart answers.
use mathlib.Core.Path.{◌∙◌}
use native.Mathlib.Omega.{arith}
use Rattle.route_list_door.proofs.Laws.{few, near, unread, read, unlisted}
use Rattle.route_list_door.proofs.pz_routes.Goals as goal

pub overflow_cast-place : goal.overflow_cast-place
overflow_cast-place c =
    let p = near c.args.chart.now c.in-Err.fault c.in-Err.ensures.value (λ i. omega (arith, c.type_inv.chart i)) in
    omega arith

pub overflow_cast-count : goal.overflow_cast-count
overflow_cast-count c =
    let l = few _ _ _ c.in-Ok-list_known.l c.in-Ok-list_known.ensures.value.1 in
    omega arith

pub returns-in-Ok-list_known : goal.returns-in-Ok-list_known
returns-in-Ok-list_known c =
    let a = c.args in
    let l = c.in-Ok-list_known in
    read a.chart.now a.slots.now (λ i. omega (arith, c.type_inv.chart i)) c.in-Ok.c c.in-Ok.ensures.value l.l c.list_known.new.out (l.ensures.value, l.ensures.bytes)

pub returns-in-Err-list_known : goal.returns-in-Err-list_known
returns-in-Err-list_known c =
    let a = c.args in
    let l = c.in-Err-list_known in
    let w = unlisted a.chart.now a.slots.now (λ i. omega (arith, c.type_inv.chart i)) c.in-Ok.c c.in-Ok.ensures.value l.refusal c.list_known.new.out (l.ensures.value, l.ensures.bytes) in
    (c.number.ensures ∙ w.0, w.1, w.2, w.3, w.4)

pub returns-in-Err : goal.returns-in-Err
returns-in-Err c =
    let a = c.args in
    let w = unread a.chart.now a.slots.now c.in-Err.fault c.in-Err.ensures.value in
    (c.number-in-Err.ensures ∙ w.0, w.1, w.2, w.3, w.4)
