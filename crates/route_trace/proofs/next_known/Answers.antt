-- `route_trace::next_known` meets its contract: the search over what is kept.
use Rattle.route_search.specs.Private.{next_over}
use Rattle.route_trace.specs.Private.{next_known}
use Rattle.route_trace.proofs.Laws.{next-kept-promised}
use Rattle.route_trace.proofs.next_known.Goals as goal

pub returns : goal.returns
unfolding next_over next_known
returns c =
    let a = c.args in
    let h = c.next_route.ensures in
    let w = next-kept-promised a.c c.ends_of-ends.ensures c.passages_for-ways.ensures c.asked_of-asked.ensures a.buf.now a.given (record { value = h.value; bytes = h.bytes; answer = h.answer; refusal = h.refusal; length = h.length }) in
    record { value = w.value; bytes = w.bytes; answer = w.answer; refusal = w.refusal; length = w.length }
