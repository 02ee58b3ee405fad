-- What first, next and the lister answer of a chart, and the lent bytes after them (document 01, "Routes and their order"; document 02, Ten).
use Rattle.std.specs.Prelude.{ℕ, List, length}
use Rattle.lists.specs.Refusals.{or_else}
use Rattle.chart.specs.declared.Chart.{Chart}
use Rattle.chart_refuse.specs.Refusal.{chart_refusal}
use Rattle.route_search.specs.Answers.{Traced, Route, Refused, Told, told, first_refusal, next_refusal, first_route, next_route}
use Rattle.route_list.specs.Listing.{Listed, list_refusal, list_answer, list_after}
use Rattle.chart_net.specs.Net.{routes_of}

-- the one number of an answer: the route's length (0 to 15) or the refusal
abbrev pub one_number : Traced → ℕ
one_number (Route n) = n
one_number (Refused k) = k

-- the chart's number, as the chart writer gives it; then 42 and 43
unfoldable pub first_refusal_of : Chart → List ℕ → ℕ
first_refusal_of c buf = or_else (chart_refusal c) (first_refusal (routes_of c) buf)

-- the chart's number; then 42, 41 and 43
unfoldable pub next_refusal_of : Chart → List ℕ → ℕ → ℕ
next_refusal_of c buf n = or_else (chart_refusal c) (next_refusal (routes_of c) buf n)

-- first: the first of the chart's routes
unfoldable pub trace_first : Chart → List ℕ → Told
trace_first c buf = told (first_refusal_of c buf) (first_route (routes_of c)) buf

-- next: the one after the route of n links in the buffer
unfoldable pub trace_next : Chart → List ℕ → ℕ → Told
trace_next c buf n = told (next_refusal_of c buf n) (next_route (routes_of c) buf n) buf

-- the lister: the chart's number; then 42 and 43
unfoldable pub list_refusal_of : Chart → ℕ → ℕ
list_refusal_of c n = or_else (chart_refusal c) (list_refusal (routes_of c) n)

-- all of the chart's routes in n bytes, as many as there is room for
unfoldable pub trace_list : Chart → ℕ → Listed
trace_list c n = list_answer (list_refusal_of c n) (routes_of c) n

unfoldable pub trace_slots : Chart → List ℕ → List ℕ
trace_slots c buf = list_after (list_refusal_of c (length buf)) (routes_of c) buf
