-- `chart_write_door::pz_chart_write` meets its contract: a short image is refused; else the writer's own answer is what C gets.
use mathlib.Core.Path.{sym, ◌∙◌}
use native.Mathlib.Omega.{arith}
use Rattle.refusal.proofs.Laws.{names}
use Rattle.chart_write.proofs.Promises.{read_undoes_write}
use Rattle.chart_write_door.proofs.Writing.{write-short, write-refused, write_done}
use Rattle.chart_write_door.proofs.pz_chart_write.Goals as goal

pub returns-then-image-lt-CHART_IMAGE_SIZE : goal.returns-then-image-lt-CHART_IMAGE_SIZE
returns-then-image-lt-CHART_IMAGE_SIZE c =
    let w = write-short c.args.image.now c.args.chart.now c.if-image-lt-CHART_IMAGE_SIZE.true in
    (c.number.ensures ∙ w.0, w.1, w.2)

pub overflow_cast-written : goal.overflow_cast-written
overflow_cast-written c =
    let s = (read_undoes_write _ c.args.chart.now c.in-Ok.n c.in-Ok.ensures.value).short in
    record { fits = omega arith }

pub returns-in-Ok : goal.returns-in-Ok
returns-in-Ok c =
    let e = c.in-Ok.ensures in
    write_done c.args.image.now c.args.chart.now c.if-image-lt-CHART_IMAGE_SIZE.false c.chart_in-c.ensures e.buffer e.value.0 e.value.1

pub returns-in-Err : goal.returns-in-Err
returns-in-Err c =
    let e = c.in-Err.ensures in
    let k = c.number-in-Err.ensures in
    write-refused c.args.image.now c.args.chart.now c.if-image-lt-CHART_IMAGE_SIZE.false c.chart_in-c.ensures e.buffer (k ∙ e.value) (λ z. names.none_zero _ (sym k ∙ z))
