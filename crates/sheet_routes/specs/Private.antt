-- The routes that are listed, and the text of what stands in the lister's slots.
use Rattle.std.specs.Prelude.{ℕ, zero, suc, ◌+◌, ◌*◌, ◌<◌, ◌≤◌, cond, List, [], ◌∷◌, ◌++◌, length, get_or, take, drop}
use Rattle.lists.specs.Refusals.{unless_refused}
use Rattle.route_search.specs.Answers.{longest_route}
use Rattle.route_search.specs.Private.{places_refusal, routes_over}
use Rattle.route_list.specs.declared.Listed.{Listed}
use Rattle.route_list.specs.Listing.{slot_size}
use Rattle.sheet_routes.specs.RouteLines.{route_line, end_line, more_line}

-- the routes over the arrays; none where there are more links than there may be, or the node asked from is no node's place
unfoldable pub routes_held : List (List ℕ) → List ℕ → ℕ → ℕ → ℕ → List (List ℕ)
routes_held ends ways links from to = unless_refused (places_refusal links from) (routes_over ends ways links from to) []

-- the route in slot k, and those in n slots from slot k on
unfoldable pub route_at : List ℕ → ℕ → List ℕ
route_at slots k = take (get_or slots (slot_size * k) 0) (drop (slot_size * k + 1) slots)

unfoldable pub routes_from : List ℕ → ℕ → ℕ → List (List ℕ)
routes_from slots k zero = []
routes_from slots k (suc n) = route_at slots k ∷ routes_from slots (suc k) n

-- n slots stand here, and none holds a route that is too long
pub record Slotted (slots : List ℕ) (n : ℕ) : Type 0 where
  pub room : slot_size * n ≤ length slots
  pub short : (k : ℕ) → k < n → get_or slots (slot_size * k) 0 ≤ longest_route

-- a line for each of these routes
unfoldable pub lines_text : List (List ℕ) → List ℕ
lines_text [] = []
lines_text (r ∷ rs) = route_line r ++ lines_text rs

-- the lines of what was listed, and the last line
unfoldable pub listed_text : List ℕ → Listed → List ℕ
listed_text slots l = lines_text (routes_from slots 0 l.count) ++ cond l.more more_line end_line
