-- Document 01's chart S moved to the directed form and back (document 02, Five), as C sees it.
use Rattle.std.specs.Prelude.{◌≡◌, refl, [], ◌∷◌, ◌++◌, replicate, set}
use Rattle.lists.specs.Places.{any_below, element_at, firsts, row, joined}
use Rattle.lists.specs.Refusals.{unless_refused}
use Rattle.lists.specs.Chains.{first_refusal_below}
use Rattle.address.specs.Address.{station_in_range, in_range, same_station, same_address}
use Rattle.chart.specs.Values.{no_chart, node_at, link_at, stray_byte, node_in_range, end_in_range, direction_in_range, link_in_range, stands_at, has_node, ends_at, has_end}
use Rattle.chart.specs.Refusals.{node_refusal_by, link_refusal_by, question_refusal_by, node_refusal, link_refusal, question_refusal}
use Rattle.chart.specs.Sample.{bytes_s, bytes_s'}
use Rattle.chart_refuse.specs.Refusal.{node_refusal_at, link_refusal_at, chart_values_refusal, chart_refusal}
use Rattle.chart_read.specs.Fields.{is_form, link_length, tagged, bytes_from, node_in, link_in}
use Rattle.chart_read.specs.Reading.{nothing, with_node, with_link, with_question, with_body, node_late, mixes, link_late, link_after, refusing, node_body_refusal, link_body_refusal, question_body_refusal, body_refusal, field_refusal, walk, read_chart_of}
use Rattle.chart_write.specs.Writing.{node_body, direction_bytes, link_body, question_body, node_field, link_field, question_field, chart_bytes, chart_write_refusal}
use Rattle.chart_form_door.specs.Calls.{pz_chart_renew_refusal, pz_chart_renew_place, pz_chart_renew_count, pz_chart_renew_chart, pz_chart_restore_refusal, pz_chart_restore_place, pz_chart_restore_count, pz_chart_restore_chart}
use Rattle.chart_form.specs.Moving.{in_form, one_way_at, one_way, moved_bytes, move_refusal}

pub record Cases : Type 0 where
  -- renewed and restored; a link out; a direction that there is not, with its place
  pub renew : (pz_chart_renew_refusal bytes_s 130 ≡ 0) × (pz_chart_renew_count bytes_s 130 ≡ 130) × (pz_chart_renew_chart bytes_s (replicate 131 7) ≡ bytes_s' ++ (7 ∷ []))
  pub renew_short : (pz_chart_renew_refusal bytes_s 129 ≡ 10) × (pz_chart_renew_count bytes_s 129 ≡ 0) × (pz_chart_renew_chart bytes_s (replicate 129 7) ≡ replicate 129 7)
  pub restore : (pz_chart_restore_refusal bytes_s' 124 ≡ 0) × (pz_chart_restore_count bytes_s' 124 ≡ 124) × (pz_chart_restore_chart bytes_s' (replicate 125 7) ≡ bytes_s ++ (7 ∷ []))
  pub restore_out : (pz_chart_restore_refusal (set bytes_s' 55 1) 0 ≡ 32) × (pz_chart_restore_place (set bytes_s' 55 1) ≡ 0) × (pz_chart_restore_count (set bytes_s' 55 1) 124 ≡ 0)
  pub renew_bad : (pz_chart_renew_refusal (set bytes_s' 68 3) 0 ≡ 24) × (pz_chart_renew_place (set bytes_s' 68 3) ≡ 56)

pub cases : Cases
unfolding bytes_s bytes_s' any_below element_at firsts row joined unless_refused first_refusal_below station_in_range in_range same_station same_address no_chart node_at link_at stray_byte node_in_range end_in_range direction_in_range link_in_range stands_at has_node ends_at has_end node_refusal_by link_refusal_by question_refusal_by node_refusal link_refusal question_refusal node_refusal_at link_refusal_at chart_values_refusal chart_refusal is_form link_length tagged bytes_from node_in link_in nothing with_node with_link with_question with_body node_late mixes link_late link_after refusing node_body_refusal link_body_refusal question_body_refusal body_refusal field_refusal walk read_chart_of node_body direction_bytes link_body question_body node_field link_field question_field chart_bytes chart_write_refusal in_form one_way_at one_way moved_bytes move_refusal pz_chart_renew_refusal pz_chart_renew_place pz_chart_renew_count pz_chart_renew_chart pz_chart_restore_refusal pz_chart_restore_place pz_chart_restore_count pz_chart_restore_chart
cases =
    record {
      renew = (refl, refl, refl);
      renew_short = (refl, refl, refl);
      restore = (refl, refl, refl);
      restore_out = (refl, refl, refl);
      renew_bad = (refl, refl);
    }
