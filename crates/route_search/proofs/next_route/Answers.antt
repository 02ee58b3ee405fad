-- `route_search::next_route` meets its contract: 26, 28, 42 and 41 in their turn; else what `later` finds is the one after the given route among all.
use Rattle.route_search.specs.Private.{next_over}
use Rattle.route_search.proofs.Telling.{next-many, next-placeless, next_small, next-over, next-told, next-none_found, begins, passed-on}
use Rattle.route_search.proofs.next_route.Goals as goal

pub returns-then-links : goal.returns-then-links
unfolding next_over
returns-then-links c =
    let a = c.args in
    let w = next-many a.ends a.ways a.links a.from a.to a.buf.now a.given c.if-links.true in
    record { value = w.value; bytes = w.bytes; answer = w.answer; refusal = w.refusal; length = w.length }

pub returns-then-from-ge-MOST_NODES : goal.returns-then-from-ge-MOST_NODES
unfolding next_over
returns-then-from-ge-MOST_NODES c =
    let a = c.args in
    let w = next-placeless a.ends a.ways a.links a.from a.to a.buf.now a.given c.if-links.false c.if-from-ge-MOST_NODES.true in
    record { value = w.value; bytes = w.bytes; answer = w.answer; refusal = w.refusal; length = w.length }

pub returns-then-buf-lt-LONGEST_ROUTE : goal.returns-then-buf-lt-LONGEST_ROUTE
unfolding next_over
returns-then-buf-lt-LONGEST_ROUTE c =
    let a = c.args in
    let w = next_small a.ends a.ways a.links a.from a.to c.if-links.false c.if-from-ge-MOST_NODES.false a.buf.now a.given c.if-buf-lt-LONGEST_ROUTE.true in
    record { value = w.value; bytes = w.bytes; answer = w.answer; refusal = w.refusal; length = w.length }

pub returns-then-given-gt-LONGEST_ROUTE : goal.returns-then-given-gt-LONGEST_ROUTE
unfolding next_over
returns-then-given-gt-LONGEST_ROUTE c =
    let a = c.args in
    let w = next-over a.ends a.ways a.links a.from a.to c.if-links.false c.if-from-ge-MOST_NODES.false a.buf.now a.given c.if-buf-lt-LONGEST_ROUTE.false c.if-given-gt-LONGEST_ROUTE.true in
    record { value = w.value; bytes = w.bytes; answer = w.answer; refusal = w.refusal; length = w.length }

pub later-requires : goal.later-requires
later-requires c =
    let a = c.args in
    begins a.ends a.ways a.links a.from a.to c.if-links.false c.if-from-ge-MOST_NODES.false c.links_by_node-t.result c.links_by_node-t.ensures

pub returns-in_err-found : goal.returns-in_err-found
unfolding next_over
returns-in_err-found c =
    let a = c.args in
    let t = c.links_by_node-t in
    let w = passed-on _ a.buf.now c.from_residual.result c.in_err-found.field-0.0 c.from_residual.ensures.1
    (next-none_found a.ends a.ways a.links a.from a.to c.if-links.false c.if-from-ge-MOST_NODES.false t.result t.ensures a.buf.now c.if-buf-lt-LONGEST_ROUTE.false
    a.given c.if-given-gt-LONGEST_ROUTE.false c.in_err-found.field-0.0 c.in_err-found.ensures) in
    record { value = w.value; bytes = w.bytes; answer = w.answer; refusal = w.refusal; length = w.length }

pub returns : goal.returns
unfolding next_over
returns c =
    let a = c.args in
    let t = c.links_by_node-t in
    let w = next-told a.ends a.ways a.links a.from a.to c.if-links.false c.if-from-ge-MOST_NODES.false t.result t.ensures a.buf.now c.if-buf-lt-LONGEST_ROUTE.false
    a.given c.if-given-gt-LONGEST_ROUTE.false c.in_ok-found.found c.hand_over.result c.hand_over.new.buf c.in_ok-found.ensures c.hand_over.ensures.0 c.hand_over.ensures.1 in
    record { value = w.value; bytes = w.bytes; answer = w.answer; refusal = w.refusal; length = w.length }
