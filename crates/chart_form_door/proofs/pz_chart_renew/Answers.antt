-- `chart_form_door::pz_chart_renew` meets its contract: both numbers fit two bytes, and the call's own answer is what C gets.
use mathlib.Core.Path.{◌≡◌, refl, sym, ◌∙◌}
use mathlib.Core.Bool.{true}
use native.Mathlib.Omega.{arith}
use Rattle.refusal.proofs.Laws.{names}
use Rattle.chart.specs.Values.{directed}
use Rattle.chart_read.specs.Fields.{is_form}
use Rattle.chart_form_door.specs.Calls.{pz_chart_renew_refusal, pz_chart_renew_place, pz_chart_renew_count, pz_chart_renew_chart}
use Rattle.chart_form_door.proofs.Moving.{written-near, moved-place-near, moves-refused, moves_done}
use Rattle.chart_form_door.proofs.pz_chart_renew.Goals as goal

known : is_form directed ≡ true
unfolding is_form
known = refl

pub overflow_cast-written : goal.overflow_cast-written
overflow_cast-written c =
    record { fits = omega (arith, written-near directed c.args.chart.now c.args.out.now known c.in-Ok.ensures.value.1.1) }

pub overflow_cast-place : goal.overflow_cast-place
overflow_cast-place c =
    record { fits = omega (arith, moved-place-near directed c.args.chart.now c.args.out.now (λ i. omega (arith, c.type_inv.chart i)) c.in-Err.ensures.value.1) }

pub returns-in-Ok : goal.returns-in-Ok
unfolding pz_chart_renew_refusal pz_chart_renew_place pz_chart_renew_count pz_chart_renew_chart
returns-in-Ok c =
    let e = c.in-Ok.ensures in
    moves_done directed c.args.chart.now c.args.out.now e.buffer e.value.0 e.value.1.0 e.value.1.1

pub returns-in-Err : goal.returns-in-Err
unfolding pz_chart_renew_refusal pz_chart_renew_place pz_chart_renew_count pz_chart_renew_chart
returns-in-Err c =
    let e = c.in-Err.ensures in
    let k = c.number.ensures in
    moves-refused directed c.args.chart.now c.args.out.now e.buffer (k ∙ e.value.0) e.value.1 (λ z. names.none_zero _ (sym k ∙ z))
