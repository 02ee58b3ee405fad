-- First, next and the list on S, in a buffer of 16 bytes, and where its link 0 goes back only; and the chart's number before 42.
use Rattle.std.specs.Prelude.{◌≡◌, refl, true, false, [], ◌∷◌, replicate}
use Rattle.lists.specs.Chains.{first_refusal_below}
use Rattle.lists.specs.Places.{any_below, first_from, first_below, element_at}
use Rattle.lists.specs.Refusals.{unless_refused}
use Rattle.address.specs.Address.{station_in_range, in_range, same_station, same_address}
use Rattle.chart.specs.Values.{no_chart, node_at, link_at, stray_byte, node_in_range, end_in_range, direction_in_range, link_in_range, stands_at, has_node, ends_at, has_end}
use Rattle.chart.specs.Refusals.{node_refusal_by, link_refusal_by, question_refusal_by, node_refusal, link_refusal, question_refusal}
use Rattle.chart.specs.Sample.{S}
use Rattle.chart_refuse.specs.Refusal.{node_refusal_at, link_refusal_at, chart_values_refusal, chart_refusal}
use Rattle.route.specs.Route.{also, only}
use Rattle.route.specs.All.{up_from, links_from, over, tries, routes, unmet, all_from, all_routes, first_of, same_links, next_of}
use Rattle.route_search.specs.Answers.{Route, Refused, finding_refusal, finding_route, told, first_refusal, next_refusal}
use Rattle.route_list.specs.Listing.{slot_of, slots_of, slot_room, list_refusal, list_count, list_more, list_answer, list_after}
use Rattle.chart_net.specs.Net.{station_place, goes_out, goes_back, far_end, routes_between, routes_of}
use Rattle.chart_net.specs.Cases.{turned}
use Rattle.route_trace.specs.Trace.{one_number, first_refusal_of, next_refusal_of, list_refusal_of, trace_first, trace_next, trace_list, trace_slots}

pub record Cases : Type 0 where
  pub number_or_refusal : (one_number (Route 3) ≡ 3) × (one_number (Refused 43) ≡ 43)
  pub first : trace_first S (replicate 16 7) ≡ record { answer = Route 2; bytes = 0 ∷ 2 ∷ replicate 14 7 }
  pub next : trace_next S (0 ∷ 2 ∷ replicate 14 7) 2 ≡ record { answer = Route 3; bytes = 0 ∷ 4 ∷ 3 ∷ replicate 13 7 }
  pub last : trace_next S (1 ∷ 4 ∷ 2 ∷ replicate 13 7) 3 ≡ record { answer = Refused 43; bytes = 1 ∷ 4 ∷ 2 ∷ replicate 13 7 }
  pub no_route : trace_next S (0 ∷ 1 ∷ replicate 14 7) 2 ≡ record { answer = Refused 41; bytes = 0 ∷ 1 ∷ replicate 14 7 }
  pub first_back : trace_first (turned 2) (replicate 16 7) ≡ record { answer = Route 2; bytes = 1 ∷ 3 ∷ replicate 14 7 }
  pub no_route_back : trace_next (turned 2) (0 ∷ 2 ∷ replicate 14 7) 2 ≡ record { answer = Refused 41; bytes = 0 ∷ 2 ∷ replicate 14 7 }
  pub chart_first : trace_first no_chart [] ≡ record { answer = Refused 28; bytes = [] }
  pub short : trace_next S [] 16 ≡ record { answer = Refused 42; bytes = [] }
  pub one_listed : (trace_list S 16 ≡ record { refusal = 0; count = 1; more = true }) × (trace_slots S (replicate 16 7) ≡ 2 ∷ 0 ∷ 2 ∷ replicate 13 0)
  pub four_listed : (trace_list S 64 ≡ record { refusal = 0; count = 4; more = false }) × (trace_list (turned 2) 64 ≡ record { refusal = 0; count = 2; more = false })
  pub list_chart_first : (trace_list no_chart 0 ≡ record { refusal = 28; count = 0; more = false }) × (trace_list S 15 ≡ record { refusal = 42; count = 0; more = false })

pub cases : Cases
unfolding S no_chart first_refusal_below unless_refused any_below first_from first_below element_at station_in_range in_range same_station same_address node_at link_at stray_byte node_in_range end_in_range direction_in_range link_in_range stands_at has_node ends_at has_end node_refusal_by link_refusal_by question_refusal_by node_refusal link_refusal question_refusal node_refusal_at link_refusal_at chart_values_refusal chart_refusal also only up_from links_from over tries routes unmet all_from all_routes first_of same_links next_of station_place goes_out goes_back far_end routes_between routes_of finding_refusal finding_route told first_refusal next_refusal first_refusal_of next_refusal_of trace_first trace_next slot_of slots_of slot_room list_refusal list_count list_more list_answer list_after list_refusal_of trace_list trace_slots
cases =
    record {
      number_or_refusal = (refl, refl);
      first = refl;
      next = refl;
      last = refl;
      no_route = refl;
      first_back = refl;
      no_route_back = refl;
      chart_first = refl;
      short = refl;
      one_listed = (refl, refl);
      four_listed = (refl, refl);
      list_chart_first = (refl, refl);
    }
