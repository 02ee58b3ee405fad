-- Document 01's chart S moved to the directed form and back (document 02, Five): its bytes, the room that it asks for, and each number.
use Rattle.std.specs.Prelude.{ℕ, ◌≡◌, refl, List, [], ◌∷◌, ◌++◌, replicate, set, take}
use Rattle.lists.specs.Places.{any_below, element_at, firsts, row, joined}
use Rattle.lists.specs.Refusals.{unless_refused}
use Rattle.address.specs.Address.{station_in_range, in_range, same_station, same_address}
use Rattle.chart.specs.Values.{no_chart, node_at, link_at, stray_byte, node_in_range, end_in_range, direction_in_range, link_in_range, stands_at, has_node, ends_at, has_end}
use Rattle.chart.specs.Refusals.{node_refusal_by, link_refusal_by, question_refusal_by, node_refusal, link_refusal, question_refusal}
use Rattle.chart.specs.Sample.{bytes_s, bytes_s'}
use Rattle.chart_read.specs.Cases.{lone, asked}
use Rattle.chart_read.specs.Fields.{is_form, link_length, tagged, bytes_from, node_in, link_in}
use Rattle.chart_read.specs.Reading.{nothing, with_node, with_link, with_question, with_body, node_late, mixes, link_late, link_after, refusing, node_body_refusal, link_body_refusal, question_body_refusal, body_refusal, field_refusal, walk, read_chart_of}
use Rattle.chart_write.specs.Writing.{node_body, direction_bytes, link_body, question_body, node_field, link_field, question_field, chart_bytes}
use Rattle.chart_form.specs.Moving.{Moved, in_form, one_way_at, one_way, moved_bytes, move_refusal, move_of, moved_after}

-- S in the directed form with its first link out
abbrev pub one_way_s : List ℕ
one_way_s = set bytes_s' 55 1

-- an answer: the number, the place, the bytes written
abbrev pub answer : ℕ → ℕ → ℕ → Moved
answer refusal place written = record { refusal = refusal; place = place; written = written }

pub record Cases : Type 0 where
  -- S renewed and restored
  pub renewed : moved_bytes 4 bytes_s ≡ bytes_s'
  pub restored : moved_bytes 2 bytes_s' ≡ bytes_s
  -- one already in the form asked for is copied, and one without links in either
  pub copied : (moved_bytes 2 bytes_s ≡ bytes_s) × (moved_bytes 4 one_way_s ≡ one_way_s)
  pub without : (moved_bytes 4 (lone ++ asked) ≡ lone ++ asked) × (moved_bytes 2 (lone ++ asked) ≡ lone ++ asked)
  -- a byte after the chart stays; in a buffer one byte too short all do
  pub fits : (move_of 4 bytes_s 130 ≡ answer 0 0 130) × (moved_after 4 bytes_s (replicate 130 7 ++ (8 ∷ [])) ≡ bytes_s' ++ (8 ∷ []))
  pub short : (move_of 4 bytes_s 129 ≡ answer 10 0 0) × (moved_after 4 bytes_s (replicate 129 7) ≡ replicate 129 7)
  pub back : move_of 2 bytes_s' 124 ≡ answer 0 0 124
  -- a link out is not restored, before the buffer is looked at; renewed it is copied
  pub out : (move_of 2 one_way_s 0 ≡ answer 32 0 0) × (move_of 4 one_way_s 130 ≡ answer 0 0 130)
  -- the chart's numbers come first, with their place: cut short, a direction of 3
  pub cut : move_of 4 (take 123 bytes_s) 0 ≡ answer 21 115 0
  pub direction_3 : move_of 2 (set bytes_s' 68 3) 0 ≡ answer 24 56 0

pub cases : Cases
unfolding bytes_s bytes_s' any_below element_at firsts row joined unless_refused station_in_range in_range same_station same_address no_chart node_at link_at stray_byte node_in_range end_in_range direction_in_range link_in_range stands_at has_node ends_at has_end node_refusal_by link_refusal_by question_refusal_by node_refusal link_refusal question_refusal is_form link_length tagged bytes_from node_in link_in nothing with_node with_link with_question with_body node_late mixes link_late link_after refusing node_body_refusal link_body_refusal question_body_refusal body_refusal field_refusal walk read_chart_of node_body direction_bytes link_body question_body node_field link_field question_field chart_bytes in_form one_way_at one_way moved_bytes move_refusal move_of moved_after
cases =
    record {
      renewed = refl;
      restored = refl;
      copied = (refl, refl);
      without = (refl, refl);
      fits = (refl, refl);
      short = (refl, refl);
      back = refl;
      out = (refl, refl);
      cut = refl;
      direction_3 = refl;
    }
