-- Routes with the fewest links, by example.
use Rattle.std.specs.Prelude.{ℕ, ◌≡◌, refl, true, false, [], ◌∷◌}
use Rattle.std.proofs.Math.Option.{none, some}
use Rattle.lists.specs.Places.{any_below, first_from, first_below}
use Rattle.route.specs.Route.{Net, also, only}
use Rattle.route.specs.All.{up_from, links_from, over, tries, routes, unmet, all_from, all_routes}
use Rattle.route_links.specs.Arrays.{node_place, is_out, is_back, other_end, far_node, net}
use Rattle.route_fewest.specs.Fewest.{or_fewer, fewest_of, head_of, fewest_from, first_link, passes, leads_to, some_leads, near}
use Rattle.route_fewest.specs.Private.{hop_from, hop}

-- six links: 0 to 1, 1 to 3, 3 to 2, 0 to 2 back only, 1 to 2, and 1 to 2 once more; the goal is a node
abbrev pub six : ℕ → Net
six goal =
    net ((0 ∷ 1 ∷ []) ∷ (1 ∷ 3 ∷ []) ∷ (3 ∷ 2 ∷ []) ∷ (0 ∷ 2 ∷ []) ∷ (1 ∷ 2 ∷ []) ∷ (1 ∷ 2 ∷ []) ∷ []) (1 ∷ 1 ∷ 1 ∷ 3 ∷ 1 ∷ 1 ∷ []) 6 goal

pub record Cases : Type 0 where
  -- of two with the fewest links the first; a shorter one wins wherever it stands; of none, none
  pub first : fewest_of ((0 ∷ 1 ∷ 2 ∷ []) ∷ (3 ∷ 4 ∷ []) ∷ (5 ∷ 6 ∷ []) ∷ []) ≡ some (3 ∷ 4 ∷ [])
  pub shortest : (fewest_of ((0 ∷ 1 ∷ []) ∷ (2 ∷ []) ∷ []) ≡ some (2 ∷ [])) × (fewest_of ((0 ∷ []) ∷ (1 ∷ 2 ∷ []) ∷ []) ≡ some (0 ∷ []))
  pub nothing : (fewest_of [] ≡ none) × (head_of none ≡ none) × (head_of (some []) ≡ none)
  -- from node 0 to node 2 the longer route by node 3 comes first in order; the link back from node 2 is not passed, but in its direction it is
  pub to_2 : (fewest_from (six 2) 0 ≡ some (0 ∷ 4 ∷ [])) × (first_link (six 2) 0 ≡ some 0) × (first_link (six 2) 1 ≡ some 4) × (first_link (six 2) 3 ≡ some 2)
  pub to_0 : (fewest_from (six 0) 2 ≡ some (3 ∷ [])) × (first_link (six 0) 3 ≡ some 1)
  -- the goal itself has the empty route and no first link; node 4 has no route
  pub itself : (fewest_from (six 2) 2 ≡ some []) × (first_link (six 2) 2 ≡ none)
  pub apart : (fewest_from (six 2) 4 ≡ none) × (first_link (six 4) 0 ≡ none)
  -- node 2 is two links away from node 0, not one
  pub away : (near (six 2) 1 0 ≡ false) × (near (six 2) 2 0 ≡ true) × (near (six 2) 0 2 ≡ true)
  pub hops : (hop (six 2) 0 ≡ some 0) × (hop (six 2) 1 ≡ some 4) × (hop (six 0) 3 ≡ some 1) × (hop (six 2) 4 ≡ none)

pub cases : Cases
unfolding any_below first_from first_below also only up_from links_from over tries routes unmet all_from all_routes node_place is_out is_back other_end far_node or_fewer fewest_of head_of fewest_from first_link passes leads_to some_leads near hop_from hop
cases =
    record {
      first = refl;
      shortest = (refl, refl);
      nothing = (refl, refl, refl);
      to_2 = (refl, refl, refl, refl);
      to_0 = (refl, refl);
      itself = (refl, refl);
      apart = (refl, refl);
      away = (refl, refl, refl);
      hops = (refl, refl, refl, refl);
    }
