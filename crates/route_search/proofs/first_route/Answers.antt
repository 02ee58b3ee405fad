-- `route_search::first_route` meets its contract: 26, 28 and 42 in their turn, 43 where no route leads from the first node; else what walking on from the
-- first node finds is the first of all routes.
use mathlib.Core.Path.{ap, sym, subst}
use borrow.Author.Tests.{not-true, not-false}
use Rattle.std.specs.Prelude.{Result, Err}
use Rattle.refusal.specs.declared.Refusal.{Refusal}
use Rattle.route_search.specs.declared.Route.{Route}
use Rattle.route.specs.All.{first_of}
use Rattle.route_links.specs.Private.{routes_on}
use Rattle.route_search.proofs.Finding.{Finds, found-or}
use Rattle.route_search.specs.Private.{found_at, first_over}
use Rattle.route_search.proofs.Telling.{first-many, first-placeless, first_small, first-told, first-nowhere, first-none_found, begins-on, passed-on}
use mathlib.Core.Bool.{not}
use Rattle.route_search.proofs.first_route.Goals as goal

pub returns-then-links : goal.returns-then-links
unfolding first_over
returns-then-links c =
    let a = c.args in
    let w = first-many a.ends a.ways a.links a.from a.to a.buf.now c.if-links.true in
    record { value = w.value; bytes = w.bytes; answer = w.answer; refusal = w.refusal; length = w.length }

pub returns-then-from-ge-MOST_NODES : goal.returns-then-from-ge-MOST_NODES
unfolding first_over
returns-then-from-ge-MOST_NODES c =
    let a = c.args in
    let w = first-placeless a.ends a.ways a.links a.from a.to a.buf.now c.if-links.false c.if-from-ge-MOST_NODES.true in
    record { value = w.value; bytes = w.bytes; answer = w.answer; refusal = w.refusal; length = w.length }

pub returns-then-buf-lt-LONGEST_ROUTE : goal.returns-then-buf-lt-LONGEST_ROUTE
unfolding first_over
returns-then-buf-lt-LONGEST_ROUTE c =
    let a = c.args in
    let w = first_small a.ends a.ways a.links a.from a.to c.if-links.false c.if-from-ge-MOST_NODES.false a.buf.now c.if-buf-lt-LONGEST_ROUTE.true in
    record { value = w.value; bytes = w.bytes; answer = w.answer; refusal = w.refusal; length = w.length }

pub returns-then-not-reaches : goal.returns-then-not-reaches
unfolding first_over
returns-then-not-reaches c =
    let t = c.links_by_node-t in
    let a = c.args in
    let w = first-nowhere a.ends a.ways a.links a.from a.to c.if-links.false c.if-from-ge-MOST_NODES.false t.result t.ensures
    a.buf.now c.if-buf-lt-LONGEST_ROUTE.false c.reaches.result c.reaches.ensures (not-true _ (ap not c.if-not-reaches.true)) in
    record { value = w.value; bytes = w.bytes; answer = w.answer; refusal = w.refusal; length = w.length }

pub walk_on-requires : goal.walk_on-requires
walk_on-requires c =
    let t = c.links_by_node-t in
    let a = c.args in
    begins-on a.ends a.ways a.links a.from a.to c.if-links.false c.if-from-ge-MOST_NODES.false
    t.result c.reaches.result t.ensures c.reaches.ensures (not-false _ (ap not c.if-not-reaches.false))

pub returns-in_err-found : goal.returns-in_err-found
unfolding first_over
returns-in_err-found c =
    let a = c.args in
    let t = c.links_by_node-t in
    let r = c.in_err-found.field-0.0 in
    let h : Finds (Err r) (found_at 0 (first_of (routes_on t.result a.from 0))) =
    subst (λ (x : Result Route Refusal). Finds x (found_at 0 (first_of (routes_on t.result a.from 0)))) (sym c.in_err-found.ensures.value) (found-or _ _ c.walk_on.ensures) in
    let w = passed-on _ a.buf.now c.from_residual.result r c.from_residual.ensures.1
    (first-none_found a.ends a.ways a.links a.from a.to c.if-links.false c.if-from-ge-MOST_NODES.false t.result t.ensures a.buf.now c.if-buf-lt-LONGEST_ROUTE.false r h) in
    record { value = w.value; bytes = w.bytes; answer = w.answer; refusal = w.refusal; length = w.length }

pub returns : goal.returns
unfolding first_over
returns c =
    let a = c.args in
    let t = c.links_by_node-t in
    let w = first-told a.ends a.ways a.links a.from a.to c.if-links.false c.if-from-ge-MOST_NODES.false t.result t.ensures a.buf.now c.if-buf-lt-LONGEST_ROUTE.false
    c.in_ok-found.found c.hand_over.result c.hand_over.new.buf
    (subst (λ (x : Result Route Refusal). Finds x (found_at 0 (first_of (routes_on t.result a.from 0)))) (sym c.in_ok-found.ensures.value) (found-or _ _ c.walk_on.ensures)) c.hand_over.ensures.0 c.hand_over.ensures.1 in
    record { value = w.value; bytes = w.bytes; answer = w.answer; refusal = w.refusal; length = w.length }
