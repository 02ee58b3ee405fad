-- `route_first_door::pz_first` meets its contract: the reader's number leaves the buffer; else the search over what is kept of the chart answers.
use mathlib.Core.Path.{◌∙◌}
use native.Mathlib.Omega.{arith}
use Rattle.route_trace.specs.Private.{first_known}
use Rattle.route_first_door.proofs.Laws.{first-unread, first_read}
use Rattle.route_first_door.proofs.pz_first.Goals as goal

pub returns-in-Ok : goal.returns-in-Ok
unfolding first_known
returns-in-Ok c =
    let h = c.first_known.ensures in
    first_read c.args.chart.now c.args.route.now (λ i. omega (arith, c.type_inv.chart i)) c.in-Ok.c c.in-Ok.ensures.value c.one_number.ensures (record { value = h.value; bytes = h.bytes; answer = h.answer; refusal = h.refusal; length = h.length })

pub returns-in-Err : goal.returns-in-Err
returns-in-Err c =
    let w = first-unread c.args.chart.now c.args.route.now c.in-Err.fault c.in-Err.ensures.value in
    (c.number.ensures ∙ w.0, w.1)
