-- `chart_form::move_to` meets its contract: the reader's number, then the links that the plain form cannot say, then the writer's own answer.
use mathlib.Core.Path.{sym, ◌∙◌}
use native.Mathlib.Omega.{arith}
use lib.ListN.{length}
use Rattle.std.specs.Prelude.{Ok, Err}
use Rattle.lists.proofs.Refusals.{taken}
use Rattle.refusal.specs.declared.Refusal.TheVariants.{ChartOneWay}
use Rattle.refusal.proofs.Laws.{names}
use Rattle.refusal.proofs.Passed.{passed-answer_at}
use Rattle.chart_form.specs.Moving.{move_of}
use Rattle.chart_form.proofs.Laws.{read-few, move-answer, move-refused, moved-left, move-one-way, written-same}
use Rattle.chart_form.proofs.move_to.Goals as goal

pub returns-in_err-c : goal.returns-in_err-c
unfolding move_of
returns-in_err-c c =
    let a = c.args in
    let e = move-refused a.form a.bytes.now a.out.now c.in_err-c.ensures.value.0 (names.none_zero _) in
    let v = passed-answer_at c.from_residual.result _ c.from_residual.ensures.1 e c.in_err-c.ensures.value.1 (move_of a.form a.bytes.now (length a.out.now)).written in
    record { value = v; buffer = moved-left a.form a.bytes.now a.out.now e (names.none_zero _); answer = move-answer a.form a.bytes.now (length a.out.now) c.from_residual.result v }

pub one_way-requires : goal.one_way-requires
one_way-requires c = read-few _ c.in_ok-c.ensures.value.0 c.in_ok-c.ensures.value.1.1

pub returns-then-form-one_way : goal.returns-then-form-one_way
unfolding move_of
returns-then-form-one_way c =
    let a = c.args in
    let r = c.in_ok-c.ensures.value in
    let e = move-one-way a.form a.bytes.now a.out.now r.0 r.1.1 c.one_way.ensures c.if-form-one_way.true in
    record { value = (e, sym r.1.0); buffer = moved-left a.form a.bytes.now a.out.now e (λ z. omega arith); answer = move-answer a.form a.bytes.now (length a.out.now) (Err (record { refusal = ChartOneWay; place = 0 })) (e, sym r.1.0) }

pub returns-in-Ok : goal.returns-in-Ok
unfolding move_of
returns-in-Ok c =
    let a = c.args in
    let r = c.in_ok-c.ensures.value in
    let w = c.in-Ok.ensures in
    let s = written-same a.form a.bytes.now a.out.now r.0 r.1.1 c.one_way.ensures c.requires c.if-form-one_way.false c.in_form.ensures in
    let z = sym s.refusal ∙ w.value.0 in
    record { value = (z, (r.1.0, w.value.1 ∙ s.size ∙ sym (taken _ 0 z))); buffer = w.buffer ∙ s.after; answer = move-answer a.form a.bytes.now (length a.out.now) (Ok c.in-Ok.written) (z, (r.1.0, w.value.1 ∙ s.size ∙ sym (taken _ 0 z))) }

pub returns-in-Err : goal.returns-in-Err
unfolding move_of
returns-in-Err c =
    let a = c.args in
    let r = c.in_ok-c.ensures.value in
    let w = c.in-Err.ensures in
    let s = written-same a.form a.bytes.now a.out.now r.0 r.1.1 c.one_way.ensures c.requires c.if-form-one_way.false c.in_form.ensures in
    record { value = (w.value ∙ s.refusal, sym r.1.0); buffer = w.buffer ∙ s.after; answer = move-answer a.form a.bytes.now (length a.out.now) (Err (record { refusal = c.in-Err.refusal; place = 0 })) (w.value ∙ s.refusal, sym r.1.0) }
