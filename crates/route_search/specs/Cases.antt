-- What is told of a finding, and routes by links of each way, by example.
use Rattle.std.specs.Prelude.{ℕ, ◌≡◌, refl, List, [], ◌∷◌, replicate}
use Rattle.lists.specs.Refusals.{unless_refused}
use Rattle.route.specs.Route.{also, only}
use Rattle.route.specs.All.{up_from, links_from, over, tries, routes, unmet, all_from, all_routes, route, no_more, no_route, first_of, same_links, next_of}
use Rattle.route_links.specs.Arrays.{node_place, is_out, is_back, other_end, far_node}
use Rattle.route_search.specs.Answers.{Route, Refused, traced_refusal, traced_length, finding_refusal, finding_route, told, first_refusal, next_refusal, first_route, next_route}
use Rattle.route_search.specs.Private.{routes_over}

-- two routes, 0 2 and 1
abbrev pub two : List (List ℕ)
two = (0 ∷ 2 ∷ []) ∷ (1 ∷ []) ∷ []

-- a ring passed one way only: 0 to 1 by a link out, 1 to 2 by a link back, 2 to 0 by a link out
abbrev pub ring : ℕ → ℕ → List (List ℕ)
ring from to = routes_over ((0 ∷ 1 ∷ []) ∷ (2 ∷ 1 ∷ []) ∷ (2 ∷ 0 ∷ []) ∷ []) (2 ∷ 3 ∷ 2 ∷ []) 3 from to

pub record Cases : Type 0 where
  -- a route is written and the byte past it stays; a refusal changes nothing
  pub told_route : told 0 (0 ∷ 2 ∷ []) (7 ∷ 8 ∷ 9 ∷ []) ≡ record { answer = Route 2; bytes = 0 ∷ 2 ∷ 9 ∷ [] }
  pub told_refusal : told 43 (0 ∷ 2 ∷ []) (7 ∷ 8 ∷ 9 ∷ []) ≡ record { answer = Refused 43; bytes = 7 ∷ 8 ∷ 9 ∷ [] }
  pub answers : (traced_refusal (Route 2) ≡ 0) × (traced_length (Route 2) ≡ 2) × (traced_refusal (Refused 43) ≡ 43) × (traced_length (Refused 43) ≡ 0)
  pub findings : (finding_refusal (route (0 ∷ [])) ≡ 0) × (finding_refusal no_more ≡ 43) × (finding_refusal no_route ≡ 41)
  -- the first, the next, none later, and what is none
  pub first : (first_refusal two (replicate 15 7) ≡ 0) × (first_route two ≡ 0 ∷ 2 ∷ [])
  pub none : first_refusal [] (replicate 15 7) ≡ 43
  pub next : (next_refusal two (0 ∷ 2 ∷ replicate 13 7) 2 ≡ 0) × (next_route two (0 ∷ 2 ∷ replicate 13 7) 2 ≡ 1 ∷ [])
  pub last : next_refusal two (1 ∷ replicate 14 7) 1 ≡ 43
  pub no_route : next_refusal two (0 ∷ replicate 14 7) 1 ≡ 41
  -- 42 before 41, and 41 for a length above 15
  pub short : (first_refusal two (replicate 14 7) ≡ 42) × (next_refusal two (replicate 14 7) 16 ≡ 42)
  pub too_long : next_refusal two (replicate 16 7) 16 ≡ 41
  -- a ring is passed one way round
  pub round : (ring 0 2 ≡ (0 ∷ 1 ∷ []) ∷ []) × (ring 2 0 ≡ (2 ∷ []) ∷ [])

pub cases : Cases
unfolding also only up_from links_from over tries routes unmet all_from all_routes node_place is_out is_back other_end far_node routes_over unless_refused first_of same_links next_of finding_refusal finding_route told first_refusal next_refusal
cases =
    record {
      told_route = refl;
      told_refusal = refl;
      answers = (refl, refl, refl, refl);
      findings = (refl, refl, refl);
      first = (refl, refl);
      none = refl;
      next = (refl, refl);
      last = refl;
      no_route = refl;
      short = (refl, refl);
      too_long = refl;
      round = (refl, refl);
    }
