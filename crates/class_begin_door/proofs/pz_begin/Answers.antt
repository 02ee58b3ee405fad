-- `class_begin_door::pz_begin` meets its contract: the class's number, then 10, then the image of the message.
use mathlib.Core.Path.{sym, ◌∙◌}
use native.Mathlib.Omega.{arith}
use Rattle.refusal.proofs.Laws.{names}
use Rattle.address.specs.Address.{address_of, station_of}
use Rattle.class_begin_door.proofs.Laws.{fits, begin-refused, begin-short, begin-written}
use Rattle.class_begin_door.proofs.pz_begin.Goals as goal

pub overflow_cast-place : goal.overflow_cast-place
overflow_cast-place c =
    let a = c.args in
    let near = fits a.chart.now a.tables.now (address_of a.to_brigade a.to_node a.to_port) (station_of (address_of a.brigade a.node 0)) a.message.now (λ i. omega (arith, c.type_inv.chart i)) in
    record { fits = omega (arith, c.in-Err.ensures.value.1, near) }

pub returns-in-Err : goal.returns-in-Err
returns-in-Err c =
    let a = c.args in
    let told = c.in-Err.ensures.value in
    begin-refused a.chart.now a.tables.now (address_of a.to_brigade a.to_node a.to_port) (station_of (address_of a.brigade a.node 0)) a.message.now
    (c.number.ensures ∙ told.0) told.1 (λ z. names.none_zero c.in-Err.fault.refusal (sym c.number.ensures ∙ z))

pub returns-then-message-lt-MESSAGE_SIZE : goal.returns-then-message-lt-MESSAGE_SIZE
returns-then-message-lt-MESSAGE_SIZE c =
    let a = c.args in
    let told = c.in-Ok.ensures.value in
    begin-short a.chart.now a.tables.now (address_of a.to_brigade a.to_node a.to_port) (station_of (address_of a.brigade a.node 0)) a.message.now told.0 told.1.0 c.if-message-lt-MESSAGE_SIZE.true

pub returns-else-message-lt-MESSAGE_SIZE : goal.returns-else-message-lt-MESSAGE_SIZE
returns-else-message-lt-MESSAGE_SIZE c =
    let a = c.args in
    let told = c.in-Ok.ensures.value in
    begin-written a.chart.now a.tables.now (address_of a.to_brigade a.to_node a.to_port) (station_of (address_of a.brigade a.node 0)) a.message.now told.0 told.1.0 c.if-message-lt-MESSAGE_SIZE.false told.1.1 c.put_message.ensures
