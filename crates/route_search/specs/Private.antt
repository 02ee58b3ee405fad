-- First and next over what the trace keeps by value (document 01, "Routes and their order"): the two ends of each link as node places, and the passage of each
-- link (0 none, 1 both ways, 2 out, 3 back); and what was found on the way.
use Rattle.std.specs.Prelude.{ℕ, ◌+◌, ◌-◌, List, ◌++◌, length, take, replicate, ltb, leb, Option, Some, None}
use Rattle.std.proofs.lemmas.List.Edits.{sets}
use Rattle.lists.specs.Refusals.{refuse, or_else, unless_refused}
use Rattle.chart.specs.Values.{most_nodes, most_links}
use Rattle.route.specs.All.{all_routes, Finding, route, no_more, no_route}
use Rattle.route_links.specs.Arrays.{net}
use Rattle.route_search.specs.declared.Route as code
use Rattle.route_search.specs.Answers.{longest_route, Route, Refused, Told, told, first_refusal, next_refusal, first_route, next_route}

-- ---- first and next over the arrays

-- 26: more links than there may be; 28: the node asked from is no node's place
unfoldable pub places_refusal : ℕ → ℕ → ℕ
places_refusal links from = refuse 26 (ltb most_links links) (refuse 28 (leb most_nodes from) 0)

-- the routes over the arrays, their first one, and the one after the route of n links in the buffer
module _ (ends : List (List ℕ)) (ways : List ℕ) (links from to : ℕ) where
  unfoldable pub routes_over : List (List ℕ)
  routes_over = all_routes (net ends ways links to) from

  unfoldable pub first_refusal_over : List ℕ → ℕ
  first_refusal_over buf = or_else (places_refusal links from) (first_refusal routes_over buf)

  unfoldable pub next_refusal_over : List ℕ → ℕ → ℕ
  next_refusal_over buf n = or_else (places_refusal links from) (next_refusal routes_over buf n)

  unfoldable pub first_over : List ℕ → Told
  first_over buf = told (first_refusal_over buf) (first_route routes_over) buf

  unfoldable pub next_over : List ℕ → ℕ → Told
  next_over buf n = told (next_refusal_over buf n) (next_route routes_over buf n) buf

-- ---- what was found

-- n zeros
abbrev pub zeros : ℕ → List ℕ
zeros n = replicate n 0

-- a route, of which the links from some place on are filled in, with its whole length and the number 0; or the number of a refusal
pub record Found : Type 0 where
  pub refusal : ℕ
  pub len : ℕ
  pub route : List ℕ

-- nothing found: the refusal's number
abbrev pub not_found : ℕ → Found
not_found refusal = record { refusal = refusal; len = 0; route = zeros longest_route }

-- a route as the code holds it: from place d of an array of 15 on, the rest 0
abbrev pub found_at : ℕ → Finding → Found
found_at d (route r) = record { refusal = 0; len = d + length r; route = zeros d ++ (r ++ zeros (longest_route - (d + length r))) }
found_at d no_more = not_found 43
found_at d no_route = not_found 41

-- a route that was found, and one that may be; and the route of what was found
abbrev pub route_found : code.Route → Found
route_found r = record { refusal = 0; len = r.len; route = r.links }

abbrev pub found_of : Option code.Route → Found
found_of None = not_found 43
found_of (Some r) = route_found r

abbrev pub found_route : Found → code.Route
found_route f = record { len = f.len; links = f.route }

-- what was found, in the buffer; where nothing was, the refusal
unfoldable pub handed_over : Found → List ℕ → Told
handed_over f buf =
    unless_refused f.refusal
    (record { answer = Route f.len; bytes = sets buf 0 (take f.len f.route) })
    (record { answer = Refused f.refusal; bytes = buf })
