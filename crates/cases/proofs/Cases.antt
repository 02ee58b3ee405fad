-- Every case of the table holds: the definitions compute what comes back.
use mathlib.Core.Path.{◌≡◌, refl, sym, subst}
use mathlib.Core.Logic.{◌⊎◌, inl, inr}
use mathlib.Core.List.Memᴰ
use mathlib.Core.List.{List, [], ◌∷◌, map, Memᴰ, head-eq_of_cons-eq, tail-eq_of_cons-eq}
use Rattle.lists.specs.Places.{any_below, first_from, first_below, element_at, firsts, row, joined, up_to, same_at, repeat_at, repeats}
use Rattle.lists.specs.Lists.{how_many}
use Rattle.lists.specs.Refusals.{unless_refused}
use Rattle.lists.specs.Chains.{first_refusal_below}
use Rattle.address.specs.Address.{station_in_range, in_range, same_station, same_address}
use Rattle.envelope.specs.Frame.{length_of, count_of, fields_of, destination_at, xor_from}
use Rattle.envelope.specs.Refusal.{outside, stray_at, out_of_range, wrong_version, whole_refusal, values_refusal_by, frame_refusal}
use Rattle.envelope.specs.Cases.{fire_body, fire_frame, fire_fields}
use Rattle.envelope_read.specs.Read.{read_frame_of}
use Rattle.envelope_read.specs.Parts.{contents_of, destinations_of}
use Rattle.envelope_write.specs.Write.{frame_head, frame_mid, frame_body, frame_bytes}
use Rattle.table.specs.Cases.{T}
use Rattle.table.specs.Table.{entry_at, is_own, covers, qualifies, qualifies_at, has_route, out_port, out_choice, target_in_range, entry_in_range, stray_entry, table_in_range, call_in_range, choose_of}
use Rattle.ledger.specs.Rules.{leg_at, is_open, is_open_leg, alike, ticks_obey, leg_obeys, broken_at, obeys}
use Rattle.ledger.specs.Cases.{two, one}
use Rattle.ledger_accept.specs.Accept.{is_open_from, is_open_from_at, legs_refusal, call_refusal, accept_refusal, leg_for, leg_for_at, with_legs, accept_of}
use Rattle.ledger_accept.specs.Cases.{to_hill, fire_legs}
use Rattle.ledger_answer.specs.Answer.{standing_for, settled, waits, answered, with_leg, answered_at, answered_place, answer_refusal, answer_of}
use Rattle.ledger_tick.specs.Tick.{times_out, ticked_leg, ticked_ledger, tick_refusal, tick_of}
use Rattle.ledger_clear.specs.Clear.{close_up, settled_at, clear_refusal, clear_of}
use Rattle.ledger_laws.specs.Calls.{refusal_of, after}
use Rattle.chart.specs.Values.{no_chart, node_at, link_at, stray_byte, node_in_range, end_in_range, direction_in_range, link_in_range, stands_at, has_node, ends_at, has_end}
use Rattle.chart.specs.Refusals.{node_refusal_by, link_refusal_by, question_refusal_by, node_refusal, link_refusal, question_refusal}
use Rattle.chart.specs.Sample.{S, bytes_s, S', bytes_s'}
use Rattle.chart_read.specs.Fields.{is_form, link_length, bytes_from, node_in, link_in}
use Rattle.chart_read.specs.Reading.{nothing, with_node, with_link, with_question, with_body, node_late, mixes, link_late, link_after, refusing, node_body_refusal, link_body_refusal, question_body_refusal, body_refusal, field_refusal, walk, read_chart_of}
use Rattle.chart_refuse.specs.Refusal.{node_refusal_at, link_refusal_at, chart_values_refusal, chart_refusal}
use Rattle.chart_write.specs.Writing.{direction_bytes, link_body}
use Rattle.chart_image.specs.Image.{node_image, chart_image}
use Rattle.chart_image.specs.Cases.{image_s}
use Rattle.chart_read_door.specs.Calls.{pz_chart_read_refusal, pz_chart_read_image}
use Rattle.route.specs.Route.{also, only}
use Rattle.route.specs.All.{up_from, links_from, over, tries, routes, unmet, all_from, all_routes, first_of, same_links, next_of}
use Rattle.route_search.specs.Answers.{finding_refusal, finding_route, told, first_refusal, next_refusal}
use Rattle.chart_net.specs.Net.{station_place, goes_out, goes_back, far_end, chart_net, start, routes_of, routes_between}
use Rattle.route_trace.specs.Trace.{first_refusal_of, next_refusal_of, trace_first, trace_next}
use Rattle.route_list.specs.Listing.{slot_of, slots_of, slot_room, list_refusal, list_count, list_more, list_after}
use Rattle.route_list_door.specs.Calls.{pz_routes_refusal, pz_routes_count, pz_routes_more, pz_routes_slots}
use Rattle.route_first_door.specs.Routes.{if_read, pz_first, pz_next}
use Rattle.cases.specs.Questions.{Back, list_from, returned_by, after_all, numbers_from, answer_to}
use Rattle.cases.specs.Rows.{Case, Holds, table, AllHold}
use Rattle.cases.specs.Slip.{Slipped}

-- what comes back for each of some cases, and what must
abbrev back : List Case → List Back
back cs = map (λ c. answer_to c.asked) cs

abbrev meant : List Case → List Back
meant cs = map (λ c. c.meant) cs

-- where these agree each case holds
each : (cs : List Case) → back cs ≡ meant cs → (c : Case) → Memᴰ c cs → Holds c
each [] e c m = absurd (Memᴰ.not-nil m)
each (k ∷ ks) e c m = go (each ks (tail-eq_of_cons-eq e) c) (Memᴰ.cases_cons m)
  where
    go : (Memᴰ c ks → Holds c) → (c ≡ k) ⊎ Memᴰ c ks → Holds c
    go below (inl q) = subst Holds (sym q) (head-eq_of_cons-eq e)
    go below (inr n) = below n

-- they agree on the table
computed : back table ≡ meant table
unfolding read_chart_of walk unless_refused nothing no_chart field_refusal body_refusal refusing node_body_refusal link_body_refusal question_body_refusal node_late mixes link_late link_after is_form link_length node_in link_in bytes_from with_body with_node with_link with_question node_refusal_by link_refusal_by question_refusal_by node_refusal link_refusal question_refusal node_in_range direction_in_range link_in_range end_in_range station_in_range in_range same_station same_address has_node has_end stands_at ends_at node_at link_at stray_byte any_below first_below first_from element_at firsts row also only up_from links_from over tries routes unmet all_from all_routes same_links station_place goes_out goes_back far_end chart_net start routes_of routes_between chart_refusal chart_values_refusal first_refusal_below node_refusal_at link_refusal_at first_of next_of answer_refusal finding_route finding_refusal told first_refusal next_refusal first_refusal_of next_refusal_of trace_first trace_next entry_at is_own covers qualifies qualifies_at has_route out_port out_choice target_in_range entry_in_range stray_entry table_in_range call_in_range choose_of same_at repeat_at repeats how_many leg_at is_open is_open_leg alike ticks_obey leg_obeys broken_at obeys standing_for settled waits answered with_leg answered_at answered_place answer_of times_out ticked_leg ticked_ledger tick_refusal tick_of close_up settled_at clear_refusal clear_of refusal_of after S bytes_s S' bytes_s' T two one fire_body fire_frame fire_fields to_hill fire_legs length_of count_of fields_of destination_at xor_from outside stray_at out_of_range wrong_version whole_refusal values_refusal_by frame_refusal read_frame_of contents_of destinations_of joined frame_head frame_mid frame_body frame_bytes is_open_from is_open_from_at legs_refusal call_refusal accept_refusal leg_for leg_for_at with_legs accept_of if_read pz_first pz_next numbers_from image_s up_to node_image direction_bytes link_body chart_image pz_chart_read_refusal pz_chart_read_image list_from returned_by after_all answer_to table slot_of slots_of slot_room list_refusal list_count list_more list_after pz_routes_refusal pz_routes_count pz_routes_more pz_routes_slots
computed = refl

pub all_hold : AllHold
all_hold = each table computed

pub slipped : Slipped
unfolding read_chart_of walk unless_refused nothing no_chart field_refusal body_refusal refusing node_body_refusal link_body_refusal question_body_refusal node_late mixes link_late link_after is_form link_length node_in link_in bytes_from with_body with_node with_link with_question node_refusal_by link_refusal_by question_refusal_by node_refusal link_refusal question_refusal node_in_range direction_in_range link_in_range end_in_range station_in_range in_range same_station same_address has_node has_end stands_at ends_at node_at link_at stray_byte any_below first_below first_from element_at firsts row also only up_from links_from over tries routes unmet all_from all_routes same_links station_place goes_out goes_back far_end chart_net start routes_of routes_between bytes_s
slipped = record { right = refl; wrong = refl }
