-- `class::pass` meets its contract: the chart's number, then the class's, then the way.
use mathlib.Core.Path.{refl, sym, ap, ap₂, ◌∙◌}
use native.Mathlib.Omega.{arith}
use Rattle.std.specs.Prelude.{Ok}
use Rattle.refusal.proofs.Laws.{names}
use Rattle.refusal.proofs.Passed.{passed-answer_at}
use Rattle.chart_read.specs.Reading.{read_chart_of}
use Rattle.class.specs.declared.Passed as code
use Rattle.class.specs.Calls.{Passed, tables_in, no_way, passing, way_passed, send_refusal, way_of, pass_of}
use Rattle.class.specs.Private.{passed_from}
use Rattle.class.proofs.Calling.{by-chart, by-class, by-neither, read_right, got, given, bad, is-fault, send_number, sending, passed_on}
use Rattle.class.proofs.pass.Goals as goal

pub returns-in_err-c : goal.returns-in_err-c
unfolding pass_of send_refusal way_of passed_from
returns-in_err-c c =
    let a = c.args in
    let f = c.in_err-c.field-0.0 in
    let h = c.in_err-c.ensures.value in
    let e = by-chart (send_number a.tables.now a.d a.s) (passed_on a.tables.now a.d a.s) no_way a.chart.now {q = read_chart_of a.chart.now} refl (bad a.chart.now f h) in
    record {
      value = passed-answer_at c.from_residual.result f c.from_residual.ensures.1 (h.0 ∙ ap (λ (x : Passed). x.refusal) e) (h.1 ∙ ap (λ (x : Passed). x.place) e) _;
      answer = ap way_passed (is-fault c.from_residual.result f c.from_residual.ensures.1) ∙ ap₂ no_way h.0 h.1 ∙ e;
    }

pub class_refusal-requires : goal.class_refusal-requires
class_refusal-requires c =
    let a = c.args in
    let ch = c.in_ok-c.c in
    let g = given a.chart.now ch c.in_ok-c.ensures.value in
    let ok = read_right a.chart.now (λ i. omega (arith, c.type_inv.chart i)) g refl in
    ok.few_nodes

pub returns-in-Err : goal.returns-in-Err
unfolding pass_of send_refusal way_of passed_from
returns-in-Err c =
    let a = c.args in
    let ch = c.in_ok-c.c in
    let g = given a.chart.now ch c.in_ok-c.ensures.value in
    let ok = read_right a.chart.now (λ i. omega (arith, c.type_inv.chart i)) g refl in
    let t = sending a.tables.now a.d a.s {q = got ch} ok c.place_of-at.ensures c.in-Err.ensures in
    let e = by-class (send_number a.tables.now a.d a.s) (passed_on a.tables.now a.d a.s) no_way a.chart.now g refl t.number (names.none_zero c.in-Err.refusal) in
    record { value = (ap (λ (x : Passed). x.refusal) e, ap (λ (x : Passed). x.place) e); answer = e }

pub run-requires : goal.run-requires
run-requires c =
    let a = c.args in
    let ch = c.in_ok-c.c in
    let g = given a.chart.now ch c.in_ok-c.ensures.value in
    let ok = read_right a.chart.now (λ i. omega (arith, c.type_inv.chart i)) g refl in
    let t = sending a.tables.now a.d a.s {q = got ch} ok c.place_of-at.ensures c.in_default.ensures in
    t.going refl

pub returns : goal.returns
unfolding pass_of send_refusal way_of passed_from
returns c =
    let a = c.args in
    let ch = c.in_ok-c.c in
    let g = given a.chart.now ch c.in_ok-c.ensures.value in
    let ok = read_right a.chart.now (λ i. omega (arith, c.type_inv.chart i)) g refl in
    let t = sending a.tables.now a.d a.s {q = got ch} ok c.place_of-at.ensures c.in_default.ensures in
    let e = by-neither (send_number a.tables.now a.d a.s) (passed_on a.tables.now a.d a.s) no_way a.chart.now g refl t.number refl (ap (passed_from ch (tables_in a.tables.now) a.d) t.place) in
    record {
      value = (sym (ap (λ (x : Passed). x.refusal) e), (sym (ap (λ (x : Passed). x.place) e), c.run.ensures ∙ ap passing e));
      answer = ap (λ (p : code.Passed). way_passed (Ok p)) c.run.ensures ∙ e;
    }
