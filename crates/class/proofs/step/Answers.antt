-- `class::step` meets its contract: the chart's number, then the class's, then the message a step on.
use mathlib.Core.Path.{refl, sym, ap, ap₂, ◌∙◌}
use native.Mathlib.Omega.{arith}
use Rattle.refusal.proofs.Laws.{names}
use Rattle.refusal.proofs.Passed.{passed-answer_at}
use Rattle.chart_read.specs.Reading.{read_chart_of}
use Rattle.class.specs.declared.Message.{Message}
use Rattle.class.specs.Calls.{Sent, message_stepped, step_refusal, step_of}
use Rattle.class.proofs.Calling.{by-chart, by-class, by-neither, read_right, given, bad, is-fault, can-go, step_number, unsent, stepped_on}
use Rattle.class.proofs.step.Goals as goal

pub returns-in_err-c : goal.returns-in_err-c
unfolding step_of step_refusal
returns-in_err-c c =
    let a = c.args in
    let f = c.in_err-c.field-0.0 in
    let h = c.in_err-c.ensures.value in
    let e = by-chart (step_number a.tables.now a.d a.m) (stepped_on a.tables.now a.d a.m) (unsent a.m) a.chart.now {q = read_chart_of a.chart.now} refl (bad a.chart.now f h) in
    record {
      value = passed-answer_at c.from_residual.result f c.from_residual.ensures.1 (h.0 ∙ ap (λ (x : Sent). x.refusal) e) (h.1 ∙ ap (λ (x : Sent). x.place) e) _;
      answer = ap (message_stepped a.m) (is-fault c.from_residual.result f c.from_residual.ensures.1) ∙ ap₂ (unsent a.m) h.0 h.1 ∙ e;
    }

pub class_refusal-requires : goal.class_refusal-requires
class_refusal-requires c =
    let a = c.args in
    let ch = c.in_ok-c.c in
    let g = given a.chart.now ch c.in_ok-c.ensures.value in
    let ok = read_right a.chart.now (λ i. omega (arith, c.type_inv.chart i)) g refl in
    ok.few_nodes

pub returns-in-Err : goal.returns-in-Err
unfolding step_of step_refusal
returns-in-Err c =
    let a = c.args in
    let ch = c.in_ok-c.c in
    let g = given a.chart.now ch c.in_ok-c.ensures.value in
    let ok = read_right a.chart.now (λ i. omega (arith, c.type_inv.chart i)) g refl in
    let e = by-class (step_number a.tables.now a.d a.m) (stepped_on a.tables.now a.d a.m) (unsent a.m) a.chart.now g refl c.in-Err.ensures (names.none_zero c.in-Err.refusal) in
    record { value = (ap (λ (x : Sent). x.refusal) e, ap (λ (x : Sent). x.place) e); answer = e }

pub step_on-requires : goal.step_on-requires
step_on-requires c =
    let a = c.args in
    let ch = c.in_ok-c.c in
    let g = given a.chart.now ch c.in_ok-c.ensures.value in
    let ok = read_right a.chart.now (λ i. omega (arith, c.type_inv.chart i)) g refl in
    can-go ch ok a.tables.now a.d a.m.at a.m.arrival (sym c.in_default.ensures)

pub returns : goal.returns
unfolding step_of step_refusal
returns c =
    let a = c.args in
    let ch = c.in_ok-c.c in
    let g = given a.chart.now ch c.in_ok-c.ensures.value in
    let ok = read_right a.chart.now (λ i. omega (arith, c.type_inv.chart i)) g refl in
    let stepped = ap {B = Sent} (λ (m : Message). record { refusal = 0; place = 0; message = m }) c.step_on.ensures in
    let e = by-neither (step_number a.tables.now a.d a.m) (stepped_on a.tables.now a.d a.m) (unsent a.m) a.chart.now g refl c.in_default.ensures refl stepped in
    record { value = (sym (ap (λ (x : Sent). x.refusal) e), (sym (ap (λ (x : Sent). x.place) e), ap (λ (x : Sent). x.message) e)); answer = e }
