-- Damaged charts and what mending makes of them: what is kept, what is listed, and the number where both buffers are long enough.
use Rattle.std.specs.Prelude.{ℕ, ◌≡◌, refl, List, [], ◌∷◌, ◌++◌, take, drop, replicate, set}
use Rattle.lists.specs.Places.{any_below, element_at, firsts, row}
use Rattle.lists.specs.Refusals.{unless_refused}
use Rattle.address.specs.Address.{station_in_range, in_range, same_station, same_address}
use Rattle.chart.specs.Values.{no_chart, node_at, link_at, stray_byte, node_in_range, end_in_range, direction_in_range, link_in_range, stands_at, has_node, ends_at, has_end}
use Rattle.chart.specs.Refusals.{node_refusal_by, link_refusal_by, question_refusal_by, node_refusal, link_refusal, question_refusal}
use Rattle.chart.specs.Sample.{bytes_s, bytes_s'}
use Rattle.chart_read.specs.Fields.{is_form, link_length, bytes_from, node_in, link_in}
use Rattle.chart_read.specs.Reading.{nothing, with_node, with_link, with_question, with_body, node_late, mixes, link_late, link_after, refusing, node_body_refusal, link_body_refusal, question_body_refusal, body_refusal, field_refusal}
use Rattle.chart_mend.specs.Mending.{next_place, held_after, seen_at, fields_from, held_from, fields_of, held_of, each, kept_of, entry_of, kept_bytes, list_bytes, mend_refusal}

pub record Mending (bytes kept list : List ℕ) (number : ℕ) : Type 0 where
  pub keeps : kept_bytes bytes ≡ kept
  pub lists : list_bytes bytes ≡ list
  pub gives : mend_refusal bytes 65535 65535 ≡ number

-- S's second node spoiled: the node is 24, and the three links to it are 28
abbrev pub spoiled : List ℕ
spoiled = set bytes_s 17 255

-- one node, a link to nowhere, a second node, the question, a second question
abbrev pub late : List ℕ
late = take 13 bytes_s ++ (take 12 (drop 43 bytes_s) ++ (take 10 (drop 33 bytes_s) ++ (drop 115 bytes_s ++ drop 115 bytes_s)))

-- S in the directed form with one plain link more before its question
abbrev pub mixed : List ℕ
mixed = take 121 bytes_s' ++ (take 12 (drop 43 bytes_s) ++ drop 121 bytes_s')

pub record Cases : Type 0 where
  -- nothing at all; S itself, in either form; S without its last byte, so that its question is cut short
  pub nothing_there : Mending [] [] [] 31
  pub undamaged : Mending bytes_s bytes_s [] 0
  pub directed : Mending bytes_s' bytes_s' [] 0
  pub cut : Mending (take 123 bytes_s) (take 115 bytes_s) (0 ∷ 115 ∷ 21 ∷ []) 31
  -- a field of no bytes with an unknown tag in front of S: it is passed over by its length
  pub stray : Mending (9 ∷ 0 ∷ 0 ∷ bytes_s) bytes_s (0 ∷ 0 ∷ 22 ∷ []) 0
  -- the node at 23 twice
  pub twin : Mending (take 33 bytes_s ++ drop 23 bytes_s) bytes_s (0 ∷ 33 ∷ 27 ∷ []) 0
  pub node_spoiled : Mending spoiled (take 13 bytes_s ++ (take 20 (drop 23 bytes_s) ++ (take 12 (drop 55 bytes_s) ++ (take 12 (drop 79 bytes_s) ++ drop 103 bytes_s))))
      (0 ∷ 13 ∷ 24 ∷ 0 ∷ 43 ∷ 28 ∷ 0 ∷ 67 ∷ 28 ∷ 0 ∷ 91 ∷ 28 ∷ []) 0
  -- the numbers go by what is kept: a node after a link that was dropped is kept, a second question is 25
  pub kept_decides : Mending late (take 13 bytes_s ++ (take 10 (drop 33 bytes_s) ++ drop 115 bytes_s)) (0 ∷ 13 ∷ 28 ∷ 0 ∷ 44 ∷ 25 ∷ []) 0
  -- a plain link among directed ones
  pub other_form : Mending mixed bytes_s' (0 ∷ 121 ∷ 25 ∷ []) 0
  -- a place above 255: S, then a field cut short after 300 bytes of an unknown tag
  pub high_place : Mending (bytes_s ++ (9 ∷ 1 ∷ 41 ∷ replicate 297 0) ++ (1 ∷ [])) bytes_s (0 ∷ 124 ∷ 22 ∷ 1 ∷ 168 ∷ 21 ∷ []) 0
  -- 10 for either buffer
  pub short : (mend_refusal bytes_s 123 65535 ≡ 10) × (mend_refusal spoiled 65535 11 ≡ 10) × (mend_refusal spoiled 78 12 ≡ 0)

pub cases : Cases
unfolding bytes_s bytes_s' no_chart firsts row bytes_from node_in link_in nothing with_node with_link with_question with_body node_late mixes link_late link_after is_form link_length refusing node_body_refusal link_body_refusal question_body_refusal body_refusal field_refusal unless_refused any_below element_at station_in_range in_range same_station same_address node_at link_at stray_byte node_in_range end_in_range direction_in_range link_in_range stands_at has_node ends_at has_end node_refusal_by link_refusal_by question_refusal_by node_refusal link_refusal question_refusal next_place held_after seen_at fields_from held_from fields_of held_of each kept_of entry_of kept_bytes list_bytes mend_refusal
cases =
    record {
      nothing_there = record { keeps = refl; lists = refl; gives = refl };
      undamaged = record { keeps = refl; lists = refl; gives = refl };
      directed = record { keeps = refl; lists = refl; gives = refl };
      cut = record { keeps = refl; lists = refl; gives = refl };
      stray = record { keeps = refl; lists = refl; gives = refl };
      twin = record { keeps = refl; lists = refl; gives = refl };
      node_spoiled = record { keeps = refl; lists = refl; gives = refl };
      kept_decides = record { keeps = refl; lists = refl; gives = refl };
      other_form = record { keeps = refl; lists = refl; gives = refl };
      high_place = record { keeps = refl; lists = refl; gives = refl };
      short = (refl, refl, refl);
    }
