-- `chart_read_door::pz_chart_read` meets its contract: the chart's number leaves the image; else the chart is put into it.
use mathlib.Core.Path.{sym, ◌∙◌}
use native.Mathlib.Omega.{arith}
use Rattle.refusal.proofs.Laws.{names}
use Rattle.chart_read_door.proofs.Reading.{near, read-refused, read_short, read_done}
use Rattle.chart_read_door.proofs.pz_chart_read.Goals as goal

pub overflow_cast-place : goal.overflow_cast-place
overflow_cast-place c =
    let p = near c.args.chart.now c.args.image.now (λ i. omega (arith, c.type_inv.chart i)) c.in-Err.ensures.value.1 in
    record { fits = omega arith }

pub returns-in-Err : goal.returns-in-Err
returns-in-Err c =
    let e = c.in-Err.ensures.value in
    read-refused c.args.chart.now c.args.image.now (c.number.ensures ∙ e.0) e.1 (λ z. names.none_zero _ (sym c.number.ensures ∙ z))

pub returns-then-image-lt-CHART_IMAGE_SIZE : goal.returns-then-image-lt-CHART_IMAGE_SIZE
returns-then-image-lt-CHART_IMAGE_SIZE c =
    let e = c.in-Ok.ensures.value in
    let w = read_short c.args.chart.now c.args.image.now e.0 e.1.0 c.if-image-lt-CHART_IMAGE_SIZE.true in
    (c.number-then-image-lt-CHART_IMAGE_SIZE.ensures ∙ w.0, w.1, w.2)

pub returns : goal.returns
returns c =
    let e = c.in-Ok.ensures.value in
    read_done c.args.chart.now c.args.image.now e.0 e.1.0 c.if-image-lt-CHART_IMAGE_SIZE.false e.1.1 c.put_chart.ensures
