-- The trace of an accepted chart is the search over what is kept of it; a chart that is refused gives its own number.
use Prim.Native.Nat.{ℕ, zero, suc, ◌<◌}
use mathlib.Core.Path.{◌≡◌, sym, ap}
use mathlib.Core.List.{List}
use native.Mathlib.Omega.{arith}
use lib.ListN.{length}
use Rattle.chart.specs.declared.Chart.{Chart}
use Rattle.chart_refuse.specs.Refusal.{chart_refusal}
use Rattle.chart_refuse.specs.Promises.{Accepted}
use Rattle.chart_refuse.proofs.Accepted.{accepted}
use Rattle.lists.specs.Refusals.{or_else}
use Rattle.std.specs.Prelude.{Result, Err}
use Rattle.refusal.specs.declared.Refusal.{Refusal}
use Rattle.refusal.specs.Numbers.{number, Answers}
use Rattle.refusal.proofs.Laws.{names}
use Rattle.route_search.specs.Answers.{traced, first_refusal, next_refusal, first_route, next_route}
use Rattle.route_search.specs.Private.{places_refusal, routes_over, first_refusal_over, next_refusal_over, first_over, next_over}
use Rattle.route_search.proofs.Telling.{Promised, as-told, refusing, places-right}
use Rattle.chart_net.specs.Net.{start, routes_of}
use Rattle.route_list.specs.declared.Listed as code
use Rattle.route_list.specs.Listing.{list_refusal, listing_of}
use Rattle.route_list.specs.Private.{list_refusal_over}
use Rattle.route_list.proofs.Telling.{Gives}
use Rattle.route_list.proofs.Telling as listing
use Rattle.chart_net.specs.declared.Asked.{Asked}
use Rattle.chart_net.specs.Private.{station_place_for, ends_for, passages_for, asked_of, array_routes}
use Rattle.chart_net.proofs.Places.{place-few}
use Rattle.chart_net.proofs.Promises.{routes-kept, accepted-ends}
use Rattle.route_trace.specs.Trace.{first_refusal_of, next_refusal_of, list_refusal_of, trace_first, trace_next, trace_list, trace_slots}
use Rattle.route_trace.specs.Private.{first_known_refusal, next_known_refusal, list_known_refusal, first_known, next_known}

-- of two refusals the first
before : (r : Refusal) (k m : ℕ) → number r ≡ k → number r ≡ or_else k m
before r zero m h = absurd (names.none_zero r h)
before r (suc k) m h = h

module _ (c : Chart) where
  -- first, next and the list over what is kept of the chart
  module _ {ends : List (List ℕ)} {ways : List ℕ} {asked : Asked} (e : ends ≡ ends_for c.nodes c.links) (w : ways ≡ passages_for c.links) (q : asked ≡ asked_of c) where
    kept-routes : routes_over ends ways c.links.count asked.from asked.to ≡ array_routes c
    unfolding array_routes asked_of
    kept-routes = λ j. routes_over (e j) (w j) c.links.count (q j).from (q j).to

    kept_from : asked.from ≡ station_place_for c.nodes c.from
    unfolding asked_of
    kept_from = ap (λ (a : Asked). a.from) q

    pub first-kept : (buf : List ℕ) → first_over ends ways c.links.count asked.from asked.to buf ≡ first_known c buf
    unfolding first_over first_refusal_over first_known first_known_refusal
    first-kept buf = rw (kept-routes, kept_from)

    pub next-kept : (buf : List ℕ) (n : ℕ) → next_over ends ways c.links.count asked.from asked.to buf n ≡ next_known c buf n
    unfolding next_over next_refusal_over next_known next_known_refusal
    next-kept buf n = rw (kept-routes, kept_from)

    -- and what is promised of them
    pub first-kept-promised : {x : Result ℕ Refusal} {after : List ℕ} (buf : List ℕ)
        → Promised (first_refusal_over ends ways c.links.count asked.from asked.to buf) (first_route (routes_over ends ways c.links.count asked.from asked.to)) buf x after
        → Promised (first_known_refusal c buf) (first_route (array_routes c)) buf x after
    unfolding first_refusal_over first_known_refusal
    first-kept-promised {x} {after} buf p = rw (kept-routes, kept_from) at p

    pub next-kept-promised : {x : Result ℕ Refusal} {after : List ℕ} (buf : List ℕ) (n : ℕ)
        → Promised (next_refusal_over ends ways c.links.count asked.from asked.to buf n) (next_route (routes_over ends ways c.links.count asked.from asked.to) buf n) buf x after
        → Promised (next_known_refusal c buf n) (next_route (array_routes c) buf n) buf x after
    unfolding next_refusal_over next_known_refusal
    next-kept-promised {x} {after} buf n p = rw (kept-routes, kept_from) at p

    refusal-kept : (n : ℕ) → list_refusal_over ends ways c.links.count asked.from asked.to n ≡ list_known_refusal c n
    unfolding list_refusal_over list_known_refusal
    refusal-kept n = rw (kept-routes, kept_from)

    pub list-kept : (r : Result code.Listed Refusal) (after buf : List ℕ)
        → Gives (list_refusal_over ends ways c.links.count asked.from asked.to (length buf)) (routes_over ends ways c.links.count asked.from asked.to) buf r after
        → Gives (list_known_refusal c (length buf)) (array_routes c) buf r after
    list-kept r after buf g = rw (refusal-kept (length buf), kept-routes) at g

  -- what first and next promise of an answer and the bytes after it
  abbrev pub FirstPromised : List ℕ → Result ℕ Refusal → List ℕ → Type 0
  FirstPromised buf x after = Promised (first_refusal_of c buf) (first_route (routes_of c)) buf x after

  abbrev pub NextPromised : List ℕ → ℕ → Result ℕ Refusal → List ℕ → Type 0
  NextPromised buf n x after = Promised (next_refusal_of c buf n) (next_route (routes_of c) buf n) buf x after

  -- an answer and bytes that are the trace's are promised
  pub first-self : (buf : List ℕ) (x : Result ℕ Refusal) (after : List ℕ) → record { answer = traced x; bytes = after } ≡ trace_first c buf → FirstPromised buf x after
  unfolding trace_first
  first-self buf x after e = as-told (first_refusal_of c buf) (first_route (routes_of c)) buf x after e

  pub next-self : (buf : List ℕ) (n : ℕ) (x : Result ℕ Refusal) (after : List ℕ) → record { answer = traced x; bytes = after } ≡ trace_next c buf n → NextPromised buf n x after
  unfolding trace_next
  next-self buf n x after e = as-told (next_refusal_of c buf n) (next_route (routes_of c) buf n) buf x after e

  -- the chart's number comes before all others
  pub first-refused : (buf : List ℕ) (r : Refusal) → number r ≡ chart_refusal c → FirstPromised buf (Err r) buf
  unfolding first_refusal_of
  first-refused buf r h = refusing (first_refusal_of c buf) r (first_route (routes_of c)) buf (before r (chart_refusal c) (first_refusal (routes_of c) buf) h)

  pub next-refused : (buf : List ℕ) (n : ℕ) (r : Refusal) → number r ≡ chart_refusal c → NextPromised buf n (Err r) buf
  unfolding next_refusal_of
  next-refused buf n r h = refusing (next_refusal_of c buf n) r (next_route (routes_of c) buf n) buf (before r (chart_refusal c) (next_refusal (routes_of c) buf n) h)

  -- what the list promises
  abbrev pub ListPromised : List ℕ → Result code.Listed Refusal → List ℕ → Type 0
  ListPromised buf r after = Answers r (list_refusal_of c (length buf)) (listing_of (trace_list c (length buf))) × (after ≡ trace_slots c buf)

  pub list-refused : (buf : List ℕ) (r : Refusal) → number r ≡ chart_refusal c → ListPromised buf (Err r) buf
  unfolding trace_list trace_slots list_refusal_of
  list-refused buf r h = listing.refusing (list_refusal_of c (length buf)) r (routes_of c) buf (sym (before r (chart_refusal c) (list_refusal (routes_of c) (length buf)) h))

  module _ (ok : chart_refusal c ≡ 0) where
    yes : Accepted c
    yes = accepted c ok

    -- what is kept is in range
    places-kept : places_refusal c.links.count (station_place_for c.nodes c.from) ≡ 0
    unfolding start
    places-kept =
        let h = (accepted-ends c yes).begins in
        let k = yes.few_nodes in
        let p : station_place_for c.nodes c.from < 16 = rw (place-few c.nodes c.from yes.few_nodes) (omega arith) in
        places-right c.links.count (station_place_for c.nodes c.from) yes.few_links p

    kept : routes_over (ends_for c.nodes c.links) (passages_for c.links) c.links.count (station_place_for c.nodes c.from) (station_place_for c.nodes c.to) ≡ routes_of c
    unfolding array_routes
    kept = routes-kept c yes

    first-number : (buf : List ℕ) → first_known_refusal c buf ≡ first_refusal_of c buf
    unfolding first_known_refusal first_refusal_of array_routes
    first-number buf = rw (places-kept, ok, kept)

    pub first-known : (buf : List ℕ) → first_known c buf ≡ trace_first c buf
    unfolding first_known first_known_refusal array_routes trace_first first_refusal_of
    first-known buf = rw (places-kept, ok, kept)

    pub first-promised : {x : Result ℕ Refusal} {after : List ℕ} (buf : List ℕ) → Promised (first_known_refusal c buf) (first_route (array_routes c)) buf x after
        → FirstPromised buf x after
    unfolding array_routes
    first-promised {x} {after} buf p = rw (first-number buf, kept) at p

    next-number : (buf : List ℕ) (n : ℕ) → next_known_refusal c buf n ≡ next_refusal_of c buf n
    unfolding next_known_refusal next_refusal_of array_routes
    next-number buf n = rw (places-kept, ok, kept)

    pub next_known-trace : (buf : List ℕ) (n : ℕ) → next_known c buf n ≡ trace_next c buf n
    unfolding next_known next_known_refusal array_routes trace_next next_refusal_of
    next_known-trace buf n = rw (places-kept, ok, kept)

    pub next-promised : {x : Result ℕ Refusal} {after : List ℕ} (buf : List ℕ) (n : ℕ) → Promised (next_known_refusal c buf n) (next_route (array_routes c) buf n) buf x after
        → NextPromised buf n x after
    unfolding array_routes
    next-promised {x} {after} buf n p = rw (next-number buf n, kept) at p

    pub list-refusal-known : (n : ℕ) → list_known_refusal c n ≡ list_refusal_of c n
    unfolding list_known_refusal list_refusal_of array_routes
    list-refusal-known n = rw (places-kept, ok, kept)

    pub list-known : (r : Result code.Listed Refusal) (after buf : List ℕ) → Gives (list_known_refusal c (length buf)) (array_routes c) buf r after → ListPromised buf r after
    unfolding trace_list trace_slots array_routes
    list-known r after buf g = rw (list-refusal-known (length buf), kept) at g
