-- `table_write_door::pz_table` meets its contract: the reader's number, then the writer's, then 10, and each leaves the image; else the table is stored there.
use native.Mathlib.Omega.{arith}
use Rattle.buffer.specs.Bytes.{Bytes}
use Rattle.table_write_door.specs.Calls.{station}
use Rattle.table_write_door.proofs.Laws.{near, unread, told, nobody, short, stored}
use Rattle.table_write_door.proofs.pz_table.Goals as goal

pub overflow_cast-place : goal.overflow_cast-place
overflow_cast-place c =
    let a = c.args in
    record { fits = omega (arith, near a.chart.now (station a.brigade a.node) a.table.now c.in-Err.fault c.in-Err.ensures.value (λ i. omega (arith, c.type_inv.chart i))) }

pub returns-in-Err : goal.returns-in-Err
returns-in-Err c = let a = c.args in unread a.chart.now (station a.brigade a.node) a.table.now c.in-Err.fault c.in-Err.ensures.value c.number.ensures

pub returns-in-Err-write_known : goal.returns-in-Err-write_known
returns-in-Err-write_known c =
    let a = c.args in
    let s = station a.brigade a.node in
    let bytes : Bytes a.chart.now = λ i. omega (arith, c.type_inv.chart i) in
    let g = c.in-Ok.ensures.value in
    told a.chart.now s a.table.now bytes g (nobody a.chart.now s a.table.now bytes g c.in-Err-write_known.refusal c.in-Err-write_known.ensures.value c.number-in-Err-write_known.ensures)

pub returns-then-table-lt-TABLE_SIZE : goal.returns-then-table-lt-TABLE_SIZE
returns-then-table-lt-TABLE_SIZE c =
    let a = c.args in
    let s = station a.brigade a.node in
    let bytes : Bytes a.chart.now = λ i. omega (arith, c.type_inv.chart i) in
    let g = c.in-Ok.ensures.value in
    told a.chart.now s a.table.now bytes g
    (short a.chart.now s a.table.now bytes g c.in-Ok-write_known.ensures.value.0 c.if-table-lt-TABLE_SIZE.true c.number-then-table-lt-TABLE_SIZE.ensures)

pub returns : goal.returns
returns c =
    let a = c.args in
    let s = station a.brigade a.node in
    let bytes : Bytes a.chart.now = λ i. omega (arith, c.type_inv.chart i) in
    let g = c.in-Ok.ensures.value in
    told a.chart.now s a.table.now bytes g
    (stored a.chart.now s a.table.now bytes g c.in-Ok-write_known.ensures.value.0 c.if-table-lt-TABLE_SIZE.false c.in-Ok-write_known.ensures.value.1 c.put_table.ensures)
