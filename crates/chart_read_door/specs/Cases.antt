-- Document 01's chart S read into an image, as C sees it; and in the directed form (document 02, Five).
use Rattle.std.specs.Prelude.{◌≡◌, refl, [], ◌∷◌, ◌++◌, replicate, set, take}
use Rattle.lists.specs.Places.{any_below, element_at, firsts, row, joined, up_to}
use Rattle.lists.specs.Refusals.{unless_refused}
use Rattle.lists.specs.Chains.{first_refusal_below}
use Rattle.address.specs.Address.{station_in_range, in_range, same_station, same_address}
use Rattle.chart.specs.Values.{no_chart, node_at, link_at, stray_byte, node_in_range, end_in_range, direction_in_range, link_in_range, stands_at, has_node, ends_at, has_end}
use Rattle.chart.specs.Refusals.{node_refusal_by, link_refusal_by, question_refusal_by, node_refusal, link_refusal, question_refusal}
use Rattle.chart.specs.Sample.{bytes_s, bytes_s'}
use Rattle.chart_refuse.specs.Refusal.{node_refusal_at, link_refusal_at, chart_values_refusal, chart_refusal}
use Rattle.chart_read.specs.Fields.{is_form, link_length, tagged, bytes_from, node_in, link_in}
use Rattle.chart_read.specs.Reading.{nothing, with_node, with_link, with_question, with_body, node_late, mixes, link_late, link_after, refusing, node_body_refusal, link_body_refusal, question_body_refusal, body_refusal, field_refusal, walk, read_chart_of}
use Rattle.chart_write.specs.Writing.{node_body, direction_bytes, link_body, question_body, node_field, link_field, question_field, chart_bytes, chart_write_refusal}
use Rattle.chart_image.specs.Image.{node_image, chart_image, node_held, link_held, chart_in}
use Rattle.chart_image.specs.Cases.{image_s}
use Rattle.chart_read_door.specs.Calls.{pz_chart_read_refusal, pz_chart_read_place, pz_chart_read_image}

pub record Cases : Type 0 where
  -- a byte after the image stays
  pub read : pz_chart_read_image bytes_s (replicate 937 7 ++ (8 ∷ [])) ≡ image_s ++ (8 ∷ [])
  pub fits : (pz_chart_read_refusal bytes_s 937 ≡ 0) × (pz_chart_read_place bytes_s ≡ 0)
  pub short : (pz_chart_read_refusal bytes_s 936 ≡ 10) × (pz_chart_read_image bytes_s (replicate 936 7) ≡ replicate 936 7)
  -- port 0 in the second link: the chart's number first, and the place where the link's field begins; no question: the place past the end
  pub chart_first : (pz_chart_read_refusal (set bytes_s 61 0) 936 ≡ 24) × (pz_chart_read_place (set bytes_s 61 0) ≡ 55)
  pub no_question : (pz_chart_read_refusal (take 115 bytes_s) 937 ≡ 31) × (pz_chart_read_place (take 115 bytes_s) ≡ 115)
  -- the directed form, and a link out
  pub directed : pz_chart_read_image bytes_s' (replicate 937 7) ≡ set image_s 2 4
  pub out : pz_chart_read_image (set bytes_s' 55 1) (replicate 937 7) ≡ set (set image_s 2 4) 466 1

pub cases : Cases
unfolding bytes_s bytes_s' image_s any_below element_at firsts row joined up_to unless_refused first_refusal_below station_in_range in_range same_station same_address no_chart node_at link_at stray_byte node_in_range end_in_range direction_in_range link_in_range stands_at has_node ends_at has_end node_refusal_by link_refusal_by question_refusal_by node_refusal link_refusal question_refusal node_refusal_at link_refusal_at chart_values_refusal chart_refusal is_form link_length tagged bytes_from node_in link_in nothing with_node with_link with_question with_body node_late mixes link_late link_after refusing node_body_refusal link_body_refusal question_body_refusal body_refusal field_refusal walk read_chart_of node_body direction_bytes link_body question_body node_field link_field question_field chart_bytes chart_write_refusal node_image chart_image node_held link_held chart_in pz_chart_read_refusal pz_chart_read_place pz_chart_read_image
cases =
    record {
      read = refl;
      fits = (refl, refl);
      short = (refl, refl);
      chart_first = (refl, refl);
      no_question = (refl, refl);
      directed = refl;
      out = refl;
    }
