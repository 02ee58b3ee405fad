-- `class::begin` meets its contract: the chart's number, then the class's, then the message.
use mathlib.Core.Path.{refl, sym, ap, ap₂, ◌∙◌}
use native.Mathlib.Omega.{arith}
use Rattle.refusal.proofs.Laws.{names}
use Rattle.refusal.proofs.Passed.{passed-answer_at}
use Rattle.chart_read.specs.Reading.{read_chart_of}
use Rattle.class.specs.declared.Message.{Message}
use Rattle.class.specs.Class.{begun_at}
use Rattle.class.specs.Calls.{Sent, no_message, message_begun, send_refusal, begin_of}
use Rattle.class.proofs.Calling.{by-chart, by-class, by-neither, read_right, got, given, bad, is-fault, send_number, sending, begun_from, unsent}
use Rattle.class.proofs.begin.Goals as goal

pub returns-in_err-c : goal.returns-in_err-c
unfolding begin_of send_refusal
returns-in_err-c c =
    let a = c.args in
    let f = c.in_err-c.field-0.0 in
    let h = c.in_err-c.ensures.value in
    let e = by-chart (send_number a.tables.now a.d a.s) (begun_from a.s) (unsent no_message) a.chart.now {q = read_chart_of a.chart.now} refl (bad a.chart.now f h) in
    record {
      value = passed-answer_at c.from_residual.result f c.from_residual.ensures.1 (h.0 ∙ ap (λ (x : Sent). x.refusal) e) (h.1 ∙ ap (λ (x : Sent). x.place) e) _;
      answer = ap message_begun (is-fault c.from_residual.result f c.from_residual.ensures.1) ∙ ap₂ (unsent no_message) h.0 h.1 ∙ e;
    }

pub class_refusal-requires : goal.class_refusal-requires
class_refusal-requires c =
    let a = c.args in
    let ch = c.in_ok-c.c in
    let g = given a.chart.now ch c.in_ok-c.ensures.value in
    let ok = read_right a.chart.now (λ i. omega (arith, c.type_inv.chart i)) g refl in
    ok.few_nodes

pub returns-in-Err : goal.returns-in-Err
unfolding begin_of send_refusal
returns-in-Err c =
    let a = c.args in
    let ch = c.in_ok-c.c in
    let g = given a.chart.now ch c.in_ok-c.ensures.value in
    let ok = read_right a.chart.now (λ i. omega (arith, c.type_inv.chart i)) g refl in
    let t = sending a.tables.now a.d a.s {q = got ch} ok c.place_of-at.ensures c.in-Err.ensures in
    let e = by-class (send_number a.tables.now a.d a.s) (begun_from a.s) (unsent no_message) a.chart.now g refl t.number (names.none_zero c.in-Err.refusal) in
    record { value = (ap (λ (x : Sent). x.refusal) e, ap (λ (x : Sent). x.place) e); answer = e }

pub begun-requires : goal.begun-requires
begun-requires c =
    let a = c.args in
    let ch = c.in_ok-c.c in
    let g = given a.chart.now ch c.in_ok-c.ensures.value in
    let ok = read_right a.chart.now (λ i. omega (arith, c.type_inv.chart i)) g refl in
    let t = sending a.tables.now a.d a.s {q = got ch} ok c.place_of-at.ensures c.in_default.ensures in
    omega (arith, (t.going refl).here, t.ok.few_nodes)

pub returns : goal.returns
unfolding begin_of send_refusal
returns c =
    let a = c.args in
    let ch = c.in_ok-c.c in
    let g = given a.chart.now ch c.in_ok-c.ensures.value in
    let ok = read_right a.chart.now (λ i. omega (arith, c.type_inv.chart i)) g refl in
    let t = sending a.tables.now a.d a.s {q = got ch} ok c.place_of-at.ensures c.in_default.ensures in
    let begun = ap {B = Sent} (λ (m : Message). record { refusal = 0; place = 0; message = m }) (c.begun.ensures ∙ ap begun_at t.place) in
    let e = by-neither (send_number a.tables.now a.d a.s) (begun_from a.s) (unsent no_message) a.chart.now g refl t.number refl begun in
    record { value = (sym (ap (λ (x : Sent). x.refusal) e), (sym (ap (λ (x : Sent). x.place) e), ap (λ (x : Sent). x.message) e)); answer = e }
