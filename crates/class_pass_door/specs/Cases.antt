-- What C gets of pz_pass for the bytes of S and the tables that are written from it.
use Rattle.std.specs.Prelude.{◌≡◌, refl, [], ◌∷◌, take, set, replicate}
use Rattle.lists.specs.Places.{any_below, first_from, first_below, element_at, firsts, row, joined}
use Rattle.lists.specs.Refusals.{unless_refused}
use Rattle.address.specs.declared.Address.{Address}
use Rattle.address.specs.Address.{address_of, station_in_range, in_range, same_station, same_address}
use Rattle.table.specs.Table.{entry_at, is_own, covers, qualifies, qualifies_at, has_route, out_port, out_choice, target_in_range, entry_in_range, stray_entry, table_in_range, call_in_range, choose_of}
use Rattle.table_image.specs.Table.{target_of, entry_in, stray_entry_in, entry_held, stray_entry_held, readable_table, table_in, table_of, target_bytes, entry_bytes}
use Rattle.chart.specs.Values.{no_chart, node_at, link_at, stray_byte, node_in_range, end_in_range, direction_in_range, link_in_range, stands_at, has_node, ends_at, has_end}
use Rattle.chart.specs.Refusals.{node_refusal_by, link_refusal_by, question_refusal_by, node_refusal, link_refusal, question_refusal}
use Rattle.chart.specs.Sample.{station_s, bytes_s}
use Rattle.chart_read.specs.Fields.{is_form, link_length, bytes_from, node_in, link_in}
use Rattle.chart_read.specs.Reading.{nothing, with_node, with_link, with_question, with_body, node_late, mixes, link_late, link_after, refusing, node_body_refusal, link_body_refusal, question_body_refusal, body_refusal, field_refusal, walk, read_chart_of}
use Rattle.chart_net.specs.Net.{station_place, goes_out, goes_back, far_end}
use Rattle.route_links.specs.Sets.{has}
use Rattle.table_write.specs.Writing.{near_end}
use Rattle.class.specs.Sample.{tables_s, exchanged_s}
use Rattle.class.specs.Class.{leaves_by, away_end, came_over, out_by, begun_at, ended_with, came_to, went_out, after_choice, step_on, steps_on, new_place, places_on, way_from, ending_from, stray_table, strange_table, class_refusal}
use Rattle.class.specs.Calls.{tables_in, send_refusal, way_of}
use Rattle.class_pass_door.specs.Calls.{pz_pass_refusal, pz_pass_place, pz_pass_places, pz_pass_ending, pz_pass_way}

-- to 9/30, port 5
abbrev pub quay : Address
quay = address_of 9 30 5

pub record Cases : Type 0 where
  -- from 9/1: over 9/20 to 9/30, where it is delivered; bytes past the way stay
  pub passed : (pz_pass_refusal bytes_s tables_s quay (station_s 1) 17 ≡ 0) × (pz_pass_places bytes_s tables_s quay (station_s 1) 17 ≡ 3) × (pz_pass_ending bytes_s tables_s quay (station_s 1) 17 ≡ 1)
  pub way : pz_pass_way bytes_s tables_s quay (station_s 1) (replicate 17 7) ≡ 0 ∷ 1 ∷ 3 ∷ replicate 14 7
  -- to a node that the chart does not have: it ends at the start, without a route
  pub nowhere : (pz_pass_way bytes_s tables_s (address_of 9 99 1) (station_s 1) (replicate 17 7) ≡ 0 ∷ replicate 16 7) × (pz_pass_ending bytes_s tables_s (address_of 9 99 1) (station_s 1) 17 ≡ 2)
  -- the numbers in their order: the chart's, 50 for tables that are one byte short, 44, 95, 51, 10 for a way of 16 bytes
  pub chart : (pz_pass_refusal [] (take 3135 tables_s) quay (station_s 2) 16 ≡ 31) × (pz_pass_refusal (set bytes_s 18 1) tables_s quay (station_s 1) 17 ≡ 27)
  pub tables : pz_pass_refusal bytes_s (take 3135 tables_s) quay (station_s 2) 16 ≡ 50
  pub start : pz_pass_refusal bytes_s exchanged_s quay (station_s 2) 16 ≡ 44
  pub strange : pz_pass_refusal bytes_s exchanged_s (address_of 9 30 64) (station_s 1) 16 ≡ 95
  pub destination : pz_pass_refusal bytes_s tables_s (address_of 9 30 64) (station_s 1) 16 ≡ 51
  pub short : pz_pass_refusal bytes_s tables_s quay (station_s 1) 16 ≡ 10
  -- beside a refusal zeros, and the way as it was; where the refused field begins
  pub left : (pz_pass_places bytes_s tables_s quay (station_s 2) 17 ≡ 0) × (pz_pass_ending bytes_s tables_s quay (station_s 2) 17 ≡ 0) × (pz_pass_way bytes_s tables_s quay (station_s 2) (7 ∷ []) ≡ 7 ∷ [])
  pub place : (pz_pass_place bytes_s ≡ 0) × (pz_pass_place (set bytes_s 18 1) ≡ 13)

pub cases : Cases
unfolding bytes_s tables_s exchanged_s any_below first_from first_below element_at firsts row joined unless_refused station_in_range in_range same_station same_address entry_at is_own covers qualifies qualifies_at has_route out_port out_choice target_in_range entry_in_range stray_entry table_in_range call_in_range choose_of target_of entry_in stray_entry_in entry_held stray_entry_held readable_table table_in table_of target_bytes entry_bytes no_chart node_at link_at stray_byte node_in_range end_in_range direction_in_range link_in_range stands_at has_node ends_at has_end node_refusal_by link_refusal_by question_refusal_by node_refusal link_refusal question_refusal is_form link_length bytes_from node_in link_in nothing with_node with_link with_question with_body node_late mixes link_late link_after refusing node_body_refusal link_body_refusal question_body_refusal body_refusal field_refusal walk read_chart_of station_place goes_out goes_back far_end has near_end leaves_by away_end came_over out_by begun_at ended_with came_to went_out after_choice step_on steps_on new_place places_on way_from ending_from stray_table strange_table class_refusal tables_in send_refusal way_of pz_pass_refusal pz_pass_place pz_pass_places pz_pass_ending pz_pass_way
cases =
    record {
      passed = (refl, refl, refl);
      way = refl;
      nowhere = (refl, refl);
      chart = (refl, refl);
      tables = refl;
      start = refl;
      strange = refl;
      destination = refl;
      short = refl;
      left = (refl, refl, refl);
      place = (refl, refl);
    }
