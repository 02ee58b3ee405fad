-- What C gets for the bytes of S: the numbers that come back, and the buffer.
use Rattle.std.specs.Prelude.{ℕ, ◌≡◌, refl, List, [], ◌∷◌, set, replicate}
use Rattle.lists.specs.Chains.{first_refusal_below}
use Rattle.lists.specs.Places.{any_below, first_from, first_below, element_at, firsts, row}
use Rattle.lists.specs.Refusals.{unless_refused}
use Rattle.address.specs.Address.{station_in_range, in_range, same_station, same_address}
use Rattle.chart.specs.Values.{no_chart, node_at, link_at, stray_byte, node_in_range, end_in_range, direction_in_range, link_in_range, stands_at, has_node, ends_at, has_end}
use Rattle.chart.specs.Refusals.{node_refusal_by, link_refusal_by, question_refusal_by, node_refusal, link_refusal, question_refusal}
use Rattle.chart.specs.Sample.{bytes_s, bytes_s'}
use Rattle.chart_read.specs.Fields.{is_form, link_length, bytes_from, node_in, link_in}
use Rattle.chart_read.specs.Reading.{nothing, with_node, with_link, with_question, with_body, node_late, mixes, link_late, link_after, refusing, node_body_refusal, link_body_refusal, question_body_refusal, body_refusal, field_refusal, walk, read_chart_of}
use Rattle.chart_refuse.specs.Refusal.{node_refusal_at, link_refusal_at, chart_values_refusal, chart_refusal}
use Rattle.route.specs.Route.{also, only}
use Rattle.route.specs.All.{up_from, links_from, over, tries, routes, unmet, all_from, all_routes, first_of, same_links, next_of}
use Rattle.route_search.specs.Answers.{finding_refusal, finding_route, told, first_refusal, next_refusal}
use Rattle.chart_net.specs.Net.{station_place, goes_out, goes_back, far_end, routes_between, routes_of}
use Rattle.route_trace.specs.Trace.{first_refusal_of, next_refusal_of, trace_first, trace_next}
use Rattle.route_first_door.specs.Routes.{if_read, pz_first, pz_first_number, pz_first_buffer, pz_next, pz_next_number, pz_next_buffer}

-- S with its link 0 back only
unfoldable pub bytes_back : List ℕ
bytes_back = set bytes_s' 55 2

pub record Cases : Type 0 where
  -- 0 2, then 0 4 3
  pub first : (pz_first_number bytes_s (replicate 16 7) ≡ 2) × (pz_first_buffer bytes_s (replicate 16 7) ≡ 0 ∷ 2 ∷ replicate 14 7)
  pub next : (pz_next_number bytes_s (0 ∷ 2 ∷ replicate 14 7) 2 ≡ 3) × (pz_next_buffer bytes_s (0 ∷ 2 ∷ replicate 14 7) 2 ≡ 0 ∷ 4 ∷ 3 ∷ replicate 13 7)
  -- link 0 back only: 1 3 is the first, and 0 2 no route
  pub first_back : (pz_first_number bytes_back (replicate 16 7) ≡ 2) × (pz_first_buffer bytes_back (replicate 16 7) ≡ 1 ∷ 3 ∷ replicate 14 7)
  pub no_route_back : pz_next_number bytes_back (0 ∷ 2 ∷ replicate 14 7) 2 ≡ 41
  -- after 1 4 2: 43; 0 1 is no route; a length of 16; a buffer of 14
  pub last : pz_next_number bytes_s (1 ∷ 4 ∷ 2 ∷ replicate 12 7) 3 ≡ 43
  pub no_route : pz_next_number bytes_s (0 ∷ 1 ∷ replicate 13 7) 2 ≡ 41
  pub too_long : pz_next_number bytes_s (replicate 16 7) 16 ≡ 41
  pub short : (pz_first_number bytes_s (replicate 14 7) ≡ 42) × (pz_next_number bytes_s (replicate 14 7) 16 ≡ 42)
  -- the empty chart: the reader's number first
  pub unread : (pz_first_number [] [] ≡ 31) × (pz_next_number [] [] 16 ≡ 31) × (pz_first_buffer [] (7 ∷ []) ≡ 7 ∷ [])

pub cases : Cases
unfolding bytes_s bytes_s' bytes_back no_chart firsts row bytes_from node_in link_in nothing with_node with_link with_question with_body node_late mixes link_late link_after is_form link_length refusing node_body_refusal link_body_refusal question_body_refusal body_refusal field_refusal walk read_chart_of first_refusal_below unless_refused any_below first_from first_below element_at station_in_range in_range same_station same_address node_at link_at stray_byte node_in_range end_in_range direction_in_range link_in_range stands_at has_node ends_at has_end node_refusal_by link_refusal_by question_refusal_by node_refusal link_refusal question_refusal node_refusal_at link_refusal_at chart_values_refusal chart_refusal also only up_from links_from over tries routes unmet all_from all_routes first_of same_links next_of station_place goes_out goes_back far_end routes_between routes_of finding_refusal finding_route told first_refusal next_refusal first_refusal_of next_refusal_of trace_first trace_next if_read pz_first pz_next
cases =
    record {
      first = (refl, refl);
      next = (refl, refl);
      first_back = (refl, refl);
      no_route_back = refl;
      last = refl;
      no_route = refl;
      too_long = refl;
      short = (refl, refl);
      unread = (refl, refl, refl);
    }
