-- `route_trace::next` meets its contract: the chart's own number first; of an accepted chart the search goes over what is kept, which has its routes.
use mathlib.Core.Path.{sym}
use Rattle.route_search.proofs.Telling.{passed-on}
use Rattle.route_trace.specs.Private.{next_known}
use Rattle.route_trace.specs.Trace.{trace_next}
use Rattle.route_trace.proofs.Laws.{next-refused, next-promised}
use Rattle.route_trace.proofs.next.Goals as goal

pub returns-in_err-chart_refusal : goal.returns-in_err-chart_refusal
unfolding trace_next
returns-in_err-chart_refusal c =
    let a = c.args in
    let r = c.in_err-chart_refusal.field-0.0 in
    let w = passed-on _ a.buf.now c.from_residual.result r c.from_residual.ensures.1 (next-refused a.c a.buf.now a.given r c.in_err-chart_refusal.ensures) in
    record { value = w.value; bytes = w.bytes; answer = w.answer; refusal = w.refusal; length = w.length }

pub returns : goal.returns
unfolding next_known trace_next
returns c =
    let a = c.args in
    let h = c.next_known.ensures in
    let w = next-promised a.c (sym c.in_ok-chart_refusal.ensures) a.buf.now a.given (record { value = h.value; bytes = h.bytes; answer = h.answer; refusal = h.refusal; length = h.length }) in
    record { value = w.value; bytes = w.bytes; answer = w.answer; refusal = w.refusal; length = w.length }
