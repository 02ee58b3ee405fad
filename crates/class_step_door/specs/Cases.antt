-- What C gets of pz_step for the bytes of S and the tables that are written from it.
use Rattle.std.specs.Prelude.{◌≡◌, refl, [], ◌∷◌, take, set}
use Rattle.lists.specs.Places.{any_below, first_from, first_below, element_at, firsts, row, joined}
use Rattle.lists.specs.Refusals.{unless_refused}
use Rattle.address.specs.declared.Address.{Address}
use Rattle.address.specs.Address.{address_of, station_in_range, in_range, same_station, same_address}
use Rattle.table.specs.Table.{entry_at, is_own, covers, qualifies, qualifies_at, has_route, out_port, out_choice, target_in_range, entry_in_range, stray_entry, table_in_range, call_in_range, choose_of}
use Rattle.table_image.specs.Table.{target_of, entry_in, stray_entry_in, entry_held, stray_entry_held, readable_table, table_in, table_of, target_bytes, entry_bytes}
use Rattle.chart.specs.Values.{no_chart, node_at, link_at, stray_byte, node_in_range, end_in_range, direction_in_range, link_in_range, stands_at, has_node, ends_at, has_end}
use Rattle.chart.specs.Refusals.{node_refusal_by, link_refusal_by, question_refusal_by, node_refusal, link_refusal, question_refusal}
use Rattle.chart.specs.Sample.{bytes_s}
use Rattle.chart_read.specs.Fields.{is_form, link_length, bytes_from, node_in, link_in}
use Rattle.chart_read.specs.Reading.{nothing, with_node, with_link, with_question, with_body, node_late, mixes, link_late, link_after, refusing, node_body_refusal, link_body_refusal, question_body_refusal, body_refusal, field_refusal, walk, read_chart_of}
use Rattle.chart_net.specs.Net.{station_place, goes_out, goes_back, far_end}
use Rattle.route_links.specs.Sets.{has}
use Rattle.table_write.specs.Writing.{near_end}
use Rattle.class.specs.Sample.{tables_s, exchanged_s}
use Rattle.class.specs.Class.{leaves_by, away_end, came_over, out_by, ended_with, came_to, went_out, after_choice, step_on, stray_table, strange_table, class_refusal}
use Rattle.class.specs.Calls.{tables_in, step_refusal, step_of}
use Rattle.class_image.specs.Message.{message_in, message_bytes}
use Rattle.class_step_door.specs.Calls.{pz_step_refusal, pz_step_place, pz_step_message}

-- to 9/30, port 5
abbrev pub quay : Address
quay = address_of 9 30 5

pub record Cases : Type 0 where
  -- from 9/1 to 9/20, in by port 1; then to 9/30, in by port 1, and delivered; an ended message stays, and so do bytes past it
  pub first : (pz_step_refusal bytes_s tables_s quay (0 ∷ 0 ∷ 0 ∷ 1 ∷ 0 ∷ []) ≡ 0) × (pz_step_message bytes_s tables_s quay (0 ∷ 0 ∷ 0 ∷ 1 ∷ 0 ∷ []) ≡ 1 ∷ 1 ∷ 0 ∷ 3 ∷ 0 ∷ [])
  pub second : pz_step_message bytes_s tables_s quay (1 ∷ 1 ∷ 0 ∷ 3 ∷ 0 ∷ []) ≡ 3 ∷ 1 ∷ 0 ∷ 11 ∷ 0 ∷ []
  pub third : pz_step_message bytes_s tables_s quay (3 ∷ 1 ∷ 0 ∷ 11 ∷ 0 ∷ []) ≡ 3 ∷ 1 ∷ 0 ∷ 11 ∷ 1 ∷ []
  pub ended : pz_step_message bytes_s tables_s quay (3 ∷ 1 ∷ 0 ∷ 11 ∷ 1 ∷ 7 ∷ []) ≡ 3 ∷ 1 ∷ 0 ∷ 11 ∷ 1 ∷ 7 ∷ []
  -- 9/20 was met before
  pub again : pz_step_message bytes_s tables_s quay (0 ∷ 0 ∷ 0 ∷ 3 ∷ 0 ∷ []) ≡ 1 ∷ 1 ∷ 0 ∷ 3 ∷ 4 ∷ []
  -- the numbers in their order: the chart's, 50 for tables that are one byte short, 44 for a message at place 4, 95, 51, 10
  pub chart : (pz_step_refusal [] (take 3135 tables_s) quay [] ≡ 31) × (pz_step_refusal (set bytes_s 18 1) tables_s quay [] ≡ 27)
  pub tables : pz_step_refusal bytes_s (take 3135 tables_s) quay (4 ∷ []) ≡ 50
  pub start : pz_step_refusal bytes_s exchanged_s quay (4 ∷ []) ≡ 44
  pub strange : pz_step_refusal bytes_s exchanged_s quay (0 ∷ 64 ∷ []) ≡ 95
  pub arrival : pz_step_refusal bytes_s tables_s quay (0 ∷ 64 ∷ []) ≡ 51
  pub short : (pz_step_refusal bytes_s tables_s quay (0 ∷ 0 ∷ 0 ∷ 1 ∷ []) ≡ 10) × (pz_step_message bytes_s tables_s quay (0 ∷ 0 ∷ 0 ∷ 1 ∷ []) ≡ 0 ∷ 0 ∷ 0 ∷ 1 ∷ [])
  -- where the refused field begins
  pub place : (pz_step_place bytes_s ≡ 0) × (pz_step_place (set bytes_s 18 1) ≡ 13)

pub cases : Cases
unfolding bytes_s tables_s exchanged_s any_below first_from first_below element_at firsts row joined unless_refused station_in_range in_range same_station same_address entry_at is_own covers qualifies qualifies_at has_route out_port out_choice target_in_range entry_in_range stray_entry table_in_range call_in_range choose_of target_of entry_in stray_entry_in entry_held stray_entry_held readable_table table_in table_of target_bytes entry_bytes no_chart node_at link_at stray_byte node_in_range end_in_range direction_in_range link_in_range stands_at has_node ends_at has_end node_refusal_by link_refusal_by question_refusal_by node_refusal link_refusal question_refusal is_form link_length bytes_from node_in link_in nothing with_node with_link with_question with_body node_late mixes link_late link_after refusing node_body_refusal link_body_refusal question_body_refusal body_refusal field_refusal walk read_chart_of station_place goes_out goes_back far_end has near_end leaves_by away_end came_over out_by ended_with came_to went_out after_choice step_on stray_table strange_table class_refusal tables_in step_refusal step_of message_in message_bytes pz_step_refusal pz_step_place pz_step_message
cases =
    record {
      first = (refl, refl);
      second = refl;
      third = refl;
      ended = refl;
      again = refl;
      chart = (refl, refl);
      tables = refl;
      start = refl;
      strange = refl;
      arrival = refl;
      short = (refl, refl);
      place = (refl, refl);
    }
