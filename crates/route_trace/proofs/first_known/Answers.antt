-- `route_trace::first_known` meets its contract: the search over what is kept.
use Rattle.route_search.specs.Private.{first_over}
use Rattle.route_trace.specs.Private.{first_known}
use Rattle.route_trace.proofs.Laws.{first-kept-promised}
use Rattle.route_trace.proofs.first_known.Goals as goal

pub returns : goal.returns
unfolding first_over first_known
returns c =
    let a = c.args in
    let h = c.first_route.ensures in
    let w = first-kept-promised a.c c.ends_of-ends.ensures c.passages_for-ways.ensures c.asked_of-asked.ensures a.buf.now (record { value = h.value; bytes = h.bytes; answer = h.answer; refusal = h.refusal; length = h.length }) in
    record { value = w.value; bytes = w.bytes; answer = w.answer; refusal = w.refusal; length = w.length }
