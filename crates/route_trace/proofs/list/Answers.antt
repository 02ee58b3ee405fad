-- `route_trace::list` meets its contract: the chart's own number first; of an accepted chart the list goes over what is kept, which has its routes.
use mathlib.Core.Path.{sym}
use Rattle.refusal.proofs.Passed.{passed-answer}
use Rattle.route_list.proofs.Telling.{listed-answer}
use Rattle.route_trace.specs.Trace.{trace_list}
use Rattle.route_trace.proofs.Laws.{list-refused, list-known}
use Rattle.route_trace.proofs.list.Goals as goal

pub returns-in_err-chart_refusal : goal.returns-in_err-chart_refusal
unfolding trace_list
returns-in_err-chart_refusal c =
    let a = c.args in
    let r = c.in_err-chart_refusal.field-0.0 in
    let w = list-refused a.c a.out.now r c.in_err-chart_refusal.ensures in
    let v = passed-answer c.from_residual.result r c.from_residual.ensures.1 w.0 _ in
    record { value = v; bytes = w.1; answer = listed-answer c.from_residual.result _ _ _ v }

pub returns : goal.returns
unfolding trace_list
returns c =
    let a = c.args in
    let l = c.list_known in
    let w = list-known a.c (sym c.in_ok-chart_refusal.ensures) l.result l.new.out a.out.now (l.ensures.value, l.ensures.bytes) in
    record { value = w.0; bytes = w.1; answer = listed-answer l.result _ _ _ w.0 }
