-- First, next and the lister over the arrays kept of a chart: of an accepted chart they are `trace_first`, `trace_next` and `trace_list`.
use Rattle.std.specs.Prelude.{ℕ, List}
use Rattle.chart.specs.declared.Chart.{Chart}
use Rattle.lists.specs.Refusals.{or_else}
use Rattle.route_search.specs.Answers.{Told, told, first_refusal, next_refusal, first_route, next_route}
use Rattle.route_search.specs.Private.{places_refusal}
use Rattle.route_list.specs.Listing.{list_refusal}
use Rattle.chart_net.specs.Private.{station_place_for, array_routes}

-- the numbers of first and next over what is kept of a chart, whether the chart is right or not
unfoldable pub first_known_refusal : Chart → List ℕ → ℕ
first_known_refusal c buf = or_else (places_refusal c.links.count (station_place_for c.nodes c.from)) (first_refusal (array_routes c) buf)

unfoldable pub next_known_refusal : Chart → List ℕ → ℕ → ℕ
next_known_refusal c buf n = or_else (places_refusal c.links.count (station_place_for c.nodes c.from)) (next_refusal (array_routes c) buf n)

-- and what they tell
unfoldable pub first_known : Chart → List ℕ → Told
first_known c buf = told (first_known_refusal c buf) (first_route (array_routes c)) buf

unfoldable pub next_known : Chart → List ℕ → ℕ → Told
next_known c buf n = told (next_known_refusal c buf n) (next_route (array_routes c) buf n) buf

-- the lister's likewise
unfoldable pub list_known_refusal : Chart → ℕ → ℕ
list_known_refusal c n = or_else (places_refusal c.links.count (station_place_for c.nodes c.from)) (list_refusal (array_routes c) n)
