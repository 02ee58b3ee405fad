-- What C gets of pz_routes for the bytes of S: its four routes in slots, and the numbers.
use Rattle.std.specs.Prelude.{ℕ, ◌≡◌, refl, List, [], ◌∷◌, ◌++◌, set, take, replicate}
use Rattle.lists.specs.Chains.{first_refusal_below}
use Rattle.lists.specs.Places.{any_below, first_from, first_below, element_at, firsts, row}
use Rattle.lists.specs.Refusals.{unless_refused}
use Rattle.address.specs.Address.{station_in_range, in_range, same_station, same_address}
use Rattle.route.specs.Route.{also, only}
use Rattle.route.specs.All.{up_from, links_from, over, tries, routes, unmet, all_from, all_routes, first_of}
use Rattle.chart.specs.Values.{no_chart, node_at, link_at, stray_byte, node_in_range, end_in_range, direction_in_range, link_in_range, stands_at, has_node, ends_at, has_end}
use Rattle.chart.specs.Refusals.{node_refusal_by, link_refusal_by, question_refusal_by, node_refusal, link_refusal, question_refusal}
use Rattle.chart.specs.Sample.{bytes_s}
use Rattle.chart_read.specs.Fields.{is_form, link_length, bytes_from, node_in, link_in}
use Rattle.chart_read.specs.Reading.{nothing, with_node, with_link, with_question, with_body, node_late, mixes, link_late, link_after, refusing, node_body_refusal, link_body_refusal, question_body_refusal, body_refusal, field_refusal, walk, read_chart_of}
use Rattle.route_search.specs.Answers.{finding_refusal}
use Rattle.route_list.specs.Listing.{slot_of, slots_of, slot_room, list_refusal, list_count, list_more, list_after}
use Rattle.chart_net.specs.Net.{station_place, goes_out, goes_back, far_end, routes_between, routes_of}
use Rattle.route_list_door.specs.Calls.{pz_routes_refusal, pz_routes_place, pz_routes_count, pz_routes_more, pz_routes_slots}

-- the first route, 0 2
abbrev pub first_slot : List ℕ
first_slot = 2 ∷ 0 ∷ 2 ∷ replicate 13 0

-- then 0 4 3, 1 3 and 1 4 2
abbrev pub later_slots : List ℕ
later_slots = (3 ∷ 0 ∷ 4 ∷ 3 ∷ replicate 12 0) ++ (2 ∷ 1 ∷ 3 ∷ replicate 13 0) ++ (3 ∷ 1 ∷ 4 ∷ 2 ∷ replicate 12 0)

-- S with the two links from its first node off
unfoldable pub bytes_cut : List ℕ
bytes_cut = set (set bytes_s 54 0) 66 0

-- n bytes of 7
abbrev pub sevens : ℕ → List ℕ
sevens n = replicate n 7

pub record Cases : Type 0 where
  -- all four, and a byte past them that stays
  pub four : (pz_routes_refusal bytes_s 65 ≡ 0) × (pz_routes_count bytes_s 65 ≡ 4) × (pz_routes_more bytes_s 65 ≡ 0) × (pz_routes_place bytes_s ≡ 0)
  pub four_slots : pz_routes_slots bytes_s (sevens 65) ≡ first_slot ++ later_slots ++ (7 ∷ [])
  -- room for one; three follow it
  pub one : (pz_routes_refusal bytes_s 31 ≡ 0) × (pz_routes_count bytes_s 31 ≡ 1) × (pz_routes_more bytes_s 31 ≡ 1)
  pub one_slot : pz_routes_slots bytes_s (sevens 31) ≡ first_slot ++ sevens 15
  -- 42 where there is room for none, also where there is no route; then 43
  pub short : (pz_routes_refusal bytes_s 15 ≡ 42) × (pz_routes_count bytes_s 15 ≡ 0) × (pz_routes_more bytes_s 15 ≡ 0) × (pz_routes_slots bytes_s (sevens 15) ≡ sevens 15)
  pub no_route : (pz_routes_refusal bytes_cut 15 ≡ 42) × (pz_routes_refusal bytes_cut 16 ≡ 43) × (pz_routes_place bytes_cut ≡ 0) × (pz_routes_slots bytes_cut (sevens 16) ≡ sevens 16)
  -- the chart's number comes before both, with its place: a link from node 0, which is none; no question
  pub chart_first : (pz_routes_refusal (set bytes_s 60 0) 15 ≡ 28) × (pz_routes_place (set bytes_s 60 0) ≡ 55) × (pz_routes_count (set bytes_s 60 0) 16 ≡ 0)
  pub no_question : (pz_routes_refusal (take 115 bytes_s) 16 ≡ 31) × (pz_routes_place (take 115 bytes_s) ≡ 115) × (pz_routes_slots (take 115 bytes_s) (sevens 16) ≡ sevens 16)

pub cases : Cases
unfolding bytes_s bytes_cut no_chart firsts row bytes_from node_in link_in nothing with_node with_link with_question with_body node_late mixes link_late link_after is_form link_length refusing node_body_refusal link_body_refusal question_body_refusal body_refusal field_refusal walk read_chart_of first_refusal_below unless_refused any_below first_from first_below element_at station_in_range in_range same_station same_address node_at link_at stray_byte node_in_range end_in_range direction_in_range link_in_range stands_at has_node ends_at has_end node_refusal_by link_refusal_by question_refusal_by node_refusal link_refusal question_refusal also only up_from links_from over tries routes unmet all_from all_routes first_of station_place goes_out goes_back far_end routes_between routes_of finding_refusal slot_of slots_of slot_room list_refusal list_count list_more list_after pz_routes_refusal pz_routes_place pz_routes_count pz_routes_more pz_routes_slots
cases =
    record {
      four = (refl, refl, refl, refl);
      four_slots = refl;
      one = (refl, refl, refl);
      one_slot = refl;
      short = (refl, refl, refl, refl);
      no_route = (refl, refl, refl, refl);
      chart_first = (refl, refl, refl);
      no_question = (refl, refl, refl);
    }
