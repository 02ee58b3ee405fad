-- Document 01's chart S written from an image, as C sees it; and in the directed form (document 02, Five).
use Rattle.std.specs.Prelude.{◌≡◌, refl, [], ◌∷◌, ◌++◌, replicate, set, take}
use Rattle.lists.specs.Places.{any_below, element_at, firsts, row, joined, up_to}
use Rattle.lists.specs.Refusals.{unless_refused}
use Rattle.lists.specs.Chains.{first_refusal_below}
use Rattle.address.specs.Address.{station_in_range, in_range, same_station, same_address}
use Rattle.chart.specs.Values.{no_chart, node_at, link_at, stray_byte, node_in_range, end_in_range, direction_in_range, link_in_range, stands_at, has_node, ends_at, has_end}
use Rattle.chart.specs.Refusals.{node_refusal_by, link_refusal_by, question_refusal_by, node_refusal, link_refusal, question_refusal}
use Rattle.chart.specs.Sample.{bytes_s, bytes_s'}
use Rattle.chart_refuse.specs.Refusal.{node_refusal_at, link_refusal_at, chart_values_refusal, chart_refusal}
use Rattle.chart_read.specs.Fields.{is_form, link_length, tagged, bytes_from, node_in, link_in}
use Rattle.chart_read.specs.Reading.{nothing, with_node, with_link, with_question, with_body, node_late, mixes, link_late, link_after, refusing, node_body_refusal, link_body_refusal, question_body_refusal, body_refusal, field_refusal, walk, read_chart_of}
use Rattle.chart_write.specs.Writing.{node_body, direction_bytes, link_body, question_body, node_field, link_field, question_field, chart_bytes, chart_write_refusal}
use Rattle.chart_image.specs.Image.{node_image, chart_image, node_held, link_held, chart_in}
use Rattle.chart_image.specs.Cases.{image_s}
use Rattle.chart_write_door.specs.Calls.{pz_chart_write_refusal, pz_chart_write_count, pz_chart_write_chart}

pub record Cases : Type 0 where
  -- a byte after the chart stays
  pub write : pz_chart_write_chart image_s (replicate 124 7 ++ (8 ∷ [])) ≡ bytes_s ++ (8 ∷ [])
  pub count : (pz_chart_write_refusal image_s 124 ≡ 0) × (pz_chart_write_count image_s 124 ≡ 124)
  pub no_room : (pz_chart_write_refusal image_s 123 ≡ 10) × (pz_chart_write_count image_s 123 ≡ 0) × (pz_chart_write_chart image_s (replicate 123 7) ≡ replicate 123 7)
  -- an image too short to be read comes first
  pub no_image : pz_chart_write_refusal (set (take 936 image_s) 0 17) 124 ≡ 10
  -- counts above the limits: 26; an on byte of 2: 24
  pub many : (pz_chart_write_refusal (set image_s 0 17) 0 ≡ 26) × (pz_chart_write_refusal (set image_s 1 49) 0 ≡ 26)
  pub stray : pz_chart_write_refusal (set image_s 465 2) 0 ≡ 24
  -- the directed form: 130 bytes; a link out beside the plain form: 24
  pub directed : pz_chart_write_chart (set image_s 2 4) (replicate 130 7) ≡ bytes_s'
  pub out : pz_chart_write_refusal (set image_s 466 1) 0 ≡ 24

pub cases : Cases
unfolding bytes_s bytes_s' image_s any_below element_at firsts row joined up_to unless_refused first_refusal_below station_in_range in_range same_station same_address no_chart node_at link_at stray_byte node_in_range end_in_range direction_in_range link_in_range stands_at has_node ends_at has_end node_refusal_by link_refusal_by question_refusal_by node_refusal link_refusal question_refusal node_refusal_at link_refusal_at chart_values_refusal chart_refusal is_form link_length tagged bytes_from node_in link_in nothing with_node with_link with_question with_body node_late mixes link_late link_after refusing node_body_refusal link_body_refusal question_body_refusal body_refusal field_refusal walk read_chart_of node_body direction_bytes link_body question_body node_field link_field question_field chart_bytes chart_write_refusal node_image chart_image node_held link_held chart_in pz_chart_write_refusal pz_chart_write_count pz_chart_write_chart
cases =
    record {
      write = refl;
      count = (refl, refl);
      no_room = (refl, refl, refl);
      no_image = refl;
      many = (refl, refl);
      stray = refl;
      directed = refl;
      out = refl;
    }
