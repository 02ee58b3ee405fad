-- `route_next_door::pz_next` meets its contract: the reader's number leaves the buffer; else the search over what is kept of the chart answers.
use mathlib.Core.Path.{◌∙◌}
use native.Mathlib.Omega.{arith}
use Rattle.route_trace.specs.Private.{next_known}
use Rattle.route_first_door.proofs.Laws.{next-unread, next-read}
use Rattle.route_next_door.proofs.pz_next.Goals as goal

pub returns-in-Ok : goal.returns-in-Ok
unfolding next_known
returns-in-Ok c =
    let h = c.next_known.ensures in
    next-read c.args.chart.now c.args.route.now (λ i. omega (arith, c.type_inv.chart i)) c.in-Ok.c c.in-Ok.ensures.value c.one_number.ensures c.args.length (record { value = h.value; bytes = h.bytes; answer = h.answer; refusal = h.refusal; length = h.length })

pub returns-in-Err : goal.returns-in-Err
returns-in-Err c =
    let w = next-unread c.args.chart.now c.args.route.now c.args.length c.in-Err.fault c.in-Err.ensures.value in
    (c.number.ensures ∙ w.0, w.1)
