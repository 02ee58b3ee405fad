-- `ledger_door::pz_accept` meets its contract: what accept gives of the two images is put back, and a refusal leaves the ledger's.
use native.Mathlib.Omega.{arith}
use Rattle.buffer.specs.Bytes.{Bytes}
use Rattle.ledger_door.proofs.Laws.{accept-put, accept-refused, place-small}
use Rattle.ledger_door.proofs.pz_accept.Goals as goal

pub overflow_cast-place : goal.overflow_cast-place
overflow_cast-place c =
    let a = c.args in
    let bytes : Bytes a.frame.now = λ i. omega (arith, c.type_inv.frame i) in
    record { fits = omega (arith, place-small a.ledger.now a.frame.now (record { 0 = a.arrival }) a.table.now a.ticks c.ledger_of-l.ensures c.table_of-t.ensures bytes c.in-Err.fault c.in-Err.ensures.value.1) }

pub returns-in-Ok : goal.returns-in-Ok
returns-in-Ok c =
    let a = c.args in
    accept-put a.ledger.now a.frame.now (record { 0 = a.arrival }) a.table.now a.ticks c.ledger_of-l.ensures c.table_of-t.ensures c.in-Ok.ensures.value c.put_back.ensures

pub returns-in-Err : goal.returns-in-Err
returns-in-Err c =
    let a = c.args in
    accept-refused a.ledger.now a.frame.now (record { 0 = a.arrival }) a.table.now a.ticks c.ledger_of-l.ensures c.table_of-t.ensures c.in-Err.fault c.in-Err.ensures.value c.put_back-in-Err.ensures
