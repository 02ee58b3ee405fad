-- What C gets of pz_table for the bytes of S.
use Rattle.std.specs.Prelude.{ℕ, ◌≡◌, refl, List, [], ◌∷◌, ◌++◌, replicate, set}
use Rattle.lists.specs.Chains.{first_refusal_below}
use Rattle.lists.specs.Places.{any_below, first_from, first_below, element_at, firsts, row, joined}
use Rattle.lists.specs.Refusals.{unless_refused}
use Rattle.address.specs.Address.{station_in_range, in_range, same_station, same_address}
use Rattle.chart.specs.Values.{no_chart, node_at, link_at, stray_byte, node_in_range, end_in_range, direction_in_range, link_in_range, stands_at, has_node, ends_at, has_end}
use Rattle.chart.specs.Refusals.{node_refusal_by, link_refusal_by, question_refusal_by, node_refusal, link_refusal, question_refusal}
use Rattle.chart.specs.Sample.{bytes_s}
use Rattle.chart_read.specs.Fields.{is_form, link_length, bytes_from, node_in, link_in}
use Rattle.chart_read.specs.Reading.{nothing, with_node, with_link, with_question, with_body, node_late, mixes, link_late, link_after, refusing, node_body_refusal, link_body_refusal, question_body_refusal, body_refusal, field_refusal, walk, read_chart_of}
use Rattle.route.specs.Route.{also, only}
use Rattle.route.specs.All.{up_from, links_from, over, tries, routes, unmet, all_from, all_routes}
use Rattle.chart_net.specs.Net.{station_place, goes_out, goes_back, far_end, routes_between}
use Rattle.route_fewest.specs.Fewest.{or_fewer, fewest_of, head_of}
use Rattle.table.specs.Table.{no_entry, entry_at}
use Rattle.table_image.specs.Table.{target_bytes, entry_bytes, table_image}
use Rattle.table_write.specs.Writing.{first_link_to, near_end, entry_over, entry_by, entries_by, table_with, table_for}
use Rattle.table_write_door.specs.Calls.{station, pz_table_refusal, pz_table_place, pz_table_image}

-- the table of 9/1: 9/20 by port 2, 9/21 by port 3, 9/30 by port 2; then no entry at 29 places
unfoldable pub image_s : List ℕ
image_s =
    9 ∷ 0 ∷ 1 ∷ 3 ∷
    0 ∷ 9 ∷ 0 ∷ 20 ∷ 2 ∷ 1 ∷
    0 ∷ 9 ∷ 0 ∷ 21 ∷ 3 ∷ 1 ∷
    0 ∷ 9 ∷ 0 ∷ 30 ∷ 2 ∷ 1 ∷
    joined entry_bytes (λ i. no_entry) 29

pub record Cases : Type 0 where
  -- bytes past the image stay
  pub written : (pz_table_refusal bytes_s (station 9 1) 198 ≡ 0) × (pz_table_image bytes_s (station 9 1) (replicate 198 7) ≡ image_s ++ (7 ∷ 7 ∷ []))
  -- 44 comes before 10, and the chart's number before both
  pub short : (pz_table_refusal bytes_s (station 9 1) 195 ≡ 10) × (pz_table_refusal bytes_s (station 9 2) 195 ≡ 44) × (pz_table_refusal [] (station 9 2) 0 ≡ 31)
  pub left : pz_table_image bytes_s (station 9 2) (replicate 196 7) ≡ replicate 196 7
  -- where the refused field begins: the second node is 9/1 once more
  pub place : (pz_table_place bytes_s ≡ 0) × (pz_table_refusal (set bytes_s 18 1) (station 9 1) 196 ≡ 27) × (pz_table_place (set bytes_s 18 1) ≡ 13)

pub cases : Cases
unfolding bytes_s image_s no_chart firsts row joined bytes_from node_in link_in nothing with_node with_link with_question with_body node_late mixes link_late link_after is_form link_length refusing node_body_refusal link_body_refusal question_body_refusal body_refusal field_refusal walk read_chart_of first_refusal_below unless_refused any_below first_from first_below element_at station_in_range in_range same_station same_address node_at link_at stray_byte node_in_range end_in_range direction_in_range link_in_range stands_at has_node ends_at has_end node_refusal_by link_refusal_by question_refusal_by node_refusal link_refusal question_refusal also only up_from links_from over tries routes unmet all_from all_routes station_place goes_out goes_back far_end routes_between or_fewer fewest_of head_of entry_at target_bytes entry_bytes table_image first_link_to near_end entry_over entry_by entries_by table_with table_for pz_table_refusal pz_table_place pz_table_image
cases = record { written = (refl, refl); short = (refl, refl, refl); left = refl; place = (refl, refl, refl) }
