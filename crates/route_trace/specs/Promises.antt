-- Demand 3, of the calls themselves on one lent buffer (document 01, "Routes and their order"): the first route, then the next after each until told
-- that there are no more, are all routes, each once and in order. And the links that are kept beside the nodes of a chart (document 02, Ten).
-- proofs/Promises.antt has the theorems.
use Rattle.std.specs.Prelude.{ℕ, ◌+◌, ◌<◌, ◌≤◌, ◌≡◌, ◌↔◌, Bool, true, false, length, get_or, take, drop}
use Rattle.std.proofs.Math.Option.{Option, none, some}
use mathlib.Core.List.{List, [], ◌∷◌, Memᴰ}
use Rattle.chart.specs.declared.Chart.{Chart}
use Rattle.chart_refuse.specs.Refusal.{chart_refusal}
use Rattle.route.specs.Route.{Net, Increasing, NoneTwice}
use Rattle.route_search.specs.Answers.{Route, Refused, longest_route, Told}
use Rattle.route_links.specs.Arrays.{net}
use Rattle.route_links.specs.Sets.{where_from, places_in}
use Rattle.route_links.specs.ByNode.{out_row, ByNode}
use Rattle.chart_net.specs.Net.{far_end, routes_of}
use Rattle.chart_net.specs.Private.{station_place_for, ends_for, passages_for}
use Rattle.chart_net.specs.Promises.{IsRouteOf}
use Rattle.route_trace.specs.Trace.{trace_first, trace_next}

-- the list of all routes has exactly those that the chart's question asks for, each once, in order; from a node to itself the empty one alone; none has more
-- than 15 links
pub record ListsRoutes (c : Chart) : Type 0 where
  pub each : (r : List ℕ) → Memᴰ r (routes_of c) ↔ IsRouteOf c r
  pub once : NoneTwice (routes_of c)
  pub ordered : Increasing (routes_of c)
  pub itself : c.from ≡ c.to → routes_of c ≡ [] ∷ []
  pub short : (r : List ℕ) → IsRouteOf c r → length r ≤ longest_route

abbrev pub RoutesListed : Type 0
RoutesListed = (c : Chart) → chart_refusal c ≡ 0 → ListsRoutes c

-- what a call tells, and then each next one in the buffer as it was left: 43 ends it, else a route and what comes after it
pub data GoesThrough (c : Chart) : Told → List (List ℕ) → Type 0 where
  ended : {t : Told} → t.answer ≡ Refused 43 → GoesThrough c t []
  another : {t : Told} {n : ℕ} {l : List (List ℕ)} → t.answer ≡ Route n → n ≤ longest_route → GoesThrough c (trace_next c t.bytes n) l
      → GoesThrough c t (take n t.bytes ∷ l)

-- the calls on a buffer go through that list; what is no route is 41 and leaves the buffer as it was; bytes past a route stay
pub record RoutesTraced (c : Chart) (buf : List ℕ) : Type 0 where
  pub given : GoesThrough c (trace_first c buf) (routes_of c)
  pub others : (n : ℕ) → (IsRouteOf c (take n buf) → ⊥) → trace_next c buf n ≡ record { answer = Refused 41; bytes = buf }
  pub past_first : (n : ℕ) → (trace_first c buf).answer ≡ Route n → drop n (trace_first c buf).bytes ≡ drop n buf
  pub past_next : (m n : ℕ) → (trace_next c buf m).answer ≡ Route n → drop n (trace_next c buf m).bytes ≡ drop n buf

-- so it is for every accepted chart and every buffer that is long enough
abbrev pub EveryRouteTraced : Type 0
EveryRouteTraced = (c : Chart) → chart_refusal c ≡ 0 → (buf : List ℕ) → longest_route ≤ length buf → RoutesTraced c buf

-- a shorter one is 42, also where the route would fit
pub record TooShort (c : Chart) (buf : List ℕ) : Type 0 where
  pub first : trace_first c buf ≡ record { answer = Refused 42; bytes = buf }
  pub next : (n : ℕ) → trace_next c buf n ≡ record { answer = Refused 42; bytes = buf }

abbrev pub ShortBuffers : Type 0
ShortBuffers = (c : Chart) → chart_refusal c ≡ 0 → (buf : List ℕ) → length buf < longest_route → TooShort c buf

-- a link leads on from a node
abbrev pub is_some : Option ℕ → Bool
is_some none = false
is_some (some f) = true

-- the arrays that are kept of a chart, as a net
abbrev pub kept_net : Chart → Net
kept_net c = net (ends_for c.nodes c.links) (passages_for c.links) c.links.count (station_place_for c.nodes c.to)

-- the word of a node, in the table that is made of an accepted chart, has the links of the chart that can be passed from there, in order of place, and no other
abbrev pub ChartLinksKept : Type 0
ChartLinksKept = (c : Chart) (t : List ℕ) (a : ℕ) → chart_refusal c ≡ 0 → ByNode (kept_net c) t → a < c.nodes.count
    → places_in (get_or t (out_row + a) 0) ≡ where_from (λ i. is_some (far_end c.nodes c.links i a)) 0 c.links.count
