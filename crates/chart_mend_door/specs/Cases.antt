-- Document 01's chart S and damaged ones mended (document 02, Twelve), as C sees it.
use Rattle.std.specs.Prelude.{ℕ, ◌≡◌, refl, List, [], ◌∷◌, ◌++◌, length, take, drop, replicate, set}
use Rattle.lists.specs.Places.{any_below, element_at, firsts, row}
use Rattle.lists.specs.Refusals.{unless_refused}
use Rattle.address.specs.Address.{station_in_range, in_range, same_station, same_address}
use Rattle.chart.specs.Values.{no_chart, node_at, link_at, stray_byte, node_in_range, end_in_range, direction_in_range, link_in_range, stands_at, has_node, ends_at, has_end}
use Rattle.chart.specs.Refusals.{node_refusal_by, link_refusal_by, question_refusal_by, node_refusal, link_refusal, question_refusal}
use Rattle.chart.specs.Sample.{bytes_s}
use Rattle.chart_read.specs.Fields.{is_form, link_length, bytes_from, node_in, link_in}
use Rattle.chart_read.specs.Reading.{nothing, with_node, with_link, with_question, with_body, node_late, mixes, link_late, link_after, refusing, node_body_refusal, link_body_refusal, question_body_refusal, body_refusal, field_refusal}
use Rattle.chart_mend.specs.Mending.{next_place, held_after, seen_at, fields_from, held_from, fields_of, held_of, each, kept_of, entry_of, kept_bytes, list_bytes, mend_refusal, mend_of}
use Rattle.chart_mend_door.specs.Calls.{pz_mend_refusal, pz_mend_kept, pz_mend_listed, pz_mend_chart, pz_mend_list}

-- what a call with these buffers gives
pub record Gives (input chart list : List ℕ) (k m n : ℕ) (chart' list' : List ℕ) : Type 0 where
  pub refusal : pz_mend_refusal input (length chart) (length list) ≡ k
  pub kept : pz_mend_kept input (length chart) (length list) ≡ m
  pub listed : pz_mend_listed input (length chart) (length list) ≡ n
  pub chart_after : pz_mend_chart input chart list ≡ chart'
  pub list_after : pz_mend_list input chart list ≡ list'

-- S with a spoiled node, and what is kept of it: the node is 24, the three links to it are 28
abbrev pub spoiled : List ℕ
spoiled = set bytes_s 17 255

abbrev pub spared : List ℕ
spared = take 13 bytes_s ++ (take 20 (drop 23 bytes_s) ++ (take 12 (drop 55 bytes_s) ++ (take 12 (drop 79 bytes_s) ++ drop 103 bytes_s)))

abbrev pub lost : List ℕ
lost = 0 ∷ 13 ∷ 24 ∷ 0 ∷ 43 ∷ 28 ∷ 0 ∷ 67 ∷ 28 ∷ 0 ∷ 91 ∷ 28 ∷ []

pub record Cases : Type 0 where
  -- S itself: the bytes past both results stay
  pub whole : Gives bytes_s (replicate 126 7) (replicate 3 8) 0 124 0 (bytes_s ++ (7 ∷ 7 ∷ [])) (8 ∷ 8 ∷ 8 ∷ [])
  pub exact : Gives bytes_s (replicate 124 7) [] 0 124 0 bytes_s []
  pub node_spoiled : Gives spoiled (replicate 80 7) (replicate 13 8) 0 78 12 (spared ++ (7 ∷ 7 ∷ [])) (lost ++ (8 ∷ []))
  -- the longest input, one field of an unknown tag, and one that is a byte longer
  pub longest : Gives (9 ∷ 255 ∷ 252 ∷ replicate 65532 0) (7 ∷ []) (8 ∷ []) 31 0 0 (7 ∷ []) (8 ∷ [])
  pub too_long : Gives (9 ∷ 255 ∷ 253 ∷ replicate 65533 0) (7 ∷ []) (8 ∷ []) 33 0 0 (7 ∷ []) (8 ∷ [])
  -- no input has no question
  pub nothing_there : Gives [] (7 ∷ []) (8 ∷ []) 31 0 0 (7 ∷ []) (8 ∷ [])
  -- a chart or a list that is a byte too short: both stay
  pub chart_short : Gives bytes_s (replicate 123 7) (8 ∷ []) 10 0 0 (replicate 123 7) (8 ∷ [])
  pub list_short : Gives spoiled (replicate 78 7) (replicate 11 8) 10 0 0 (replicate 78 7) (replicate 11 8)

pub cases : Cases
unfolding bytes_s no_chart any_below element_at firsts row unless_refused station_in_range in_range same_station same_address node_at link_at stray_byte node_in_range end_in_range direction_in_range link_in_range stands_at has_node ends_at has_end node_refusal_by link_refusal_by question_refusal_by node_refusal link_refusal question_refusal is_form link_length bytes_from node_in link_in nothing with_node with_link with_question with_body node_late mixes link_late link_after refusing node_body_refusal link_body_refusal question_body_refusal body_refusal field_refusal next_place held_after seen_at fields_from held_from fields_of held_of each kept_of entry_of kept_bytes list_bytes mend_refusal mend_of pz_mend_refusal pz_mend_kept pz_mend_listed pz_mend_chart pz_mend_list
cases =
    record {
      whole = record { refusal = refl; kept = refl; listed = refl; chart_after = refl; list_after = refl };
      exact = record { refusal = refl; kept = refl; listed = refl; chart_after = refl; list_after = refl };
      node_spoiled = record { refusal = refl; kept = refl; listed = refl; chart_after = refl; list_after = refl };
      longest = record { refusal = refl; kept = refl; listed = refl; chart_after = refl; list_after = refl };
      too_long = record { refusal = refl; kept = refl; listed = refl; chart_after = refl; list_after = refl };
      nothing_there = record { refusal = refl; kept = refl; listed = refl; chart_after = refl; list_after = refl };
      chart_short = record { refusal = refl; kept = refl; listed = refl; chart_after = refl; list_after = refl };
      list_short = record { refusal = refl; kept = refl; listed = refl; chart_after = refl; list_after = refl };
    }
