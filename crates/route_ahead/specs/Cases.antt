-- The links with which routes begin, by example.
use Rattle.std.specs.Prelude.{◌≡◌, refl, [], ◌∷◌}
use Rattle.route.specs.Route.{Net, also, only}
use Rattle.route.specs.All.{up_from, links_from, over, tries, routes, unmet, all_from}
use Rattle.route_links.specs.Arrays.{node_place, is_out, is_back, other_end, far_node, net}
use Rattle.route_links.specs.Sets.{where_from}
use Rattle.route_ahead.specs.Promises.{begins_with, begins_one, first_links}

-- a ladder from 0 by 1 to 2 and by 1, 3 to 2, with a tooth at 1 that leads to 4 and nowhere on: 0 to 1, 1 to 4, 1 to 2, 1 to 3, 3 to 2, and 3 to 2 once more
abbrev pub comb : Net
comb = net ((0 ∷ 1 ∷ []) ∷ (1 ∷ 4 ∷ []) ∷ (1 ∷ 2 ∷ []) ∷ (1 ∷ 3 ∷ []) ∷ (3 ∷ 2 ∷ []) ∷ (3 ∷ 2 ∷ []) ∷ []) (1 ∷ 1 ∷ 1 ∷ 1 ∷ 1 ∷ 1 ∷ []) 6 2

pub record Cases : Type 0 where
  pub from_0 : first_links comb 0 (only 0) ≡ 0 ∷ []
  -- the tooth is left out, and so is the way back
  pub from_1 : first_links comb 1 (also 1 (only 0)) ≡ 2 ∷ 3 ∷ []
  -- two links to the same node both begin a route
  pub from_3 : first_links comb 3 (also 3 (also 1 (only 0))) ≡ 4 ∷ 5 ∷ []
  -- from the tooth none leads on
  pub from_4 : first_links comb 4 (also 4 (also 1 (only 0))) ≡ []

pub cases : Cases
unfolding also only up_from links_from over tries routes unmet all_from node_place is_out is_back other_end far_node where_from begins_with begins_one first_links
cases = record { from_0 = refl; from_1 = refl; from_3 = refl; from_4 = refl }
