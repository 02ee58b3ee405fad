-- `route_trace::first` meets its contract: the chart's own number first; of an accepted chart the search goes over what is kept, which has its routes.
use mathlib.Core.Path.{sym}
use Rattle.route_search.proofs.Telling.{passed-on}
use Rattle.route_trace.specs.Private.{first_known}
use Rattle.route_trace.specs.Trace.{trace_first}
use Rattle.route_trace.proofs.Laws.{first-refused, first-promised}
use Rattle.route_trace.proofs.first.Goals as goal

pub returns-in_err-chart_refusal : goal.returns-in_err-chart_refusal
unfolding trace_first
returns-in_err-chart_refusal c =
    let a = c.args in
    let r = c.in_err-chart_refusal.field-0.0 in
    let w = passed-on _ a.buf.now c.from_residual.result r c.from_residual.ensures.1 (first-refused a.c a.buf.now r c.in_err-chart_refusal.ensures) in
    record { value = w.value; bytes = w.bytes; answer = w.answer; refusal = w.refusal; length = w.length }

pub returns : goal.returns
unfolding first_known trace_first
returns c =
    let a = c.args in
    let h = c.first_known.ensures in
    let w = first-promised a.c (sym c.in_ok-chart_refusal.ensures) a.buf.now (record { value = h.value; bytes = h.bytes; answer = h.answer; refusal = h.refusal; length = h.length }) in
    record { value = w.value; bytes = w.bytes; answer = w.answer; refusal = w.refusal; length = w.length }
