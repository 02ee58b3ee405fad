-- Charts by their bytes (document 01, "The chart", P13 and P14; document 02, Five): S, and the number and the place of each first bad field.
use Rattle.std.specs.Prelude.{ℕ, ◌≡◌, refl, true, false, List, [], ◌∷◌, ◌++◌, replicate, set, take, drop}
use Rattle.lists.specs.Places.{any_below, element_at, firsts, row}
use Rattle.address.specs.Address.{station_in_range, in_range, same_station, same_address}
use Rattle.chart.specs.Values.{no_chart, node_at, link_at, stray_byte, node_in_range, end_in_range, direction_in_range, link_in_range, stands_at, has_node, ends_at, has_end}
use Rattle.chart.specs.Refusals.{node_refusal_by, link_refusal_by, question_refusal_by, node_refusal, link_refusal, question_refusal}
use Rattle.chart.specs.Sample.{way_s, S, S', bytes_s, bytes_s'}
use Rattle.chart_read.specs.Fields.{is_form, link_length, tagged, bytes_from, node_in, link_in}
use Rattle.chart_read.specs.Reading.{nothing, with_node, with_link, with_question, with_body, node_late, mixes, link_late, link_after, refusing, node_body_refusal, link_body_refusal, question_body_refusal, body_refusal, field_refusal, refused_at, walk, read_chart_of}

-- a node 9/1 without a label, and the question from 9/1 to itself
abbrev pub lone : List ℕ
lone = 1 ∷ 0 ∷ 3 ∷ 9 ∷ 0 ∷ 1 ∷ []

abbrev pub asked : List ℕ
asked = 3 ∷ 0 ∷ 6 ∷ 9 ∷ 0 ∷ 1 ∷ 9 ∷ 0 ∷ 1 ∷ []

pub record Cases : Type 0 where
  pub whole : read_chart_of bytes_s ≡ record { refusal = 0; place = 0; chart = S }
  pub smallest : (read_chart_of (lone ++ asked)).refusal ≡ 0
  -- P13, P14
  pub empty : read_chart_of [] ≡ refused_at 31 0
  pub stray : read_chart_of (1 ∷ 0 ∷ 3 ∷ 9 ∷ 4 ∷ 0 ∷ []) ≡ refused_at 24 0
  -- a field cut short: in its body, in its length
  pub cut : read_chart_of (take 123 bytes_s) ≡ refused_at 21 115
  pub cut_length : read_chart_of (lone ++ (3 ∷ 0 ∷ [])) ≡ refused_at 21 6
  -- S in the directed form; its first link back, in a direction that there is not
  pub directed : read_chart_of bytes_s' ≡ record { refusal = 0; place = 0; chart = S' }
  pub back : read_chart_of (set bytes_s' 55 2) ≡ record {
    refusal = 0;
    place = 0;
    chart = record { nodes = S.nodes; links = record { count = 6; form = 4; items = set S.links.items 0 (way_s 1 2 20 1 true 2) }; from = S.from; to = S.to };
  }
  pub direction_3 : read_chart_of (set bytes_s' 55 3) ≡ refused_at 24 43
  -- a body of 9 bytes under tag 4, a link of the other form after the first
  pub directed_short : read_chart_of (set bytes_s' 45 9) ≡ refused_at 23 43
  pub plain_after : read_chart_of (take 56 bytes_s' ++ drop 55 bytes_s) ≡ refused_at 25 56
  pub directed_after : read_chart_of (take 55 bytes_s ++ drop 56 bytes_s') ≡ refused_at 25 55
  -- a field of no tag, and of a length that no node, link or question has
  pub tag : read_chart_of (lone ++ (5 ∷ 0 ∷ 0 ∷ asked)) ≡ refused_at 22 6
  pub node_short : read_chart_of (1 ∷ 0 ∷ 2 ∷ 9 ∷ 0 ∷ []) ≡ refused_at 23 0
  pub node_long : read_chart_of (1 ∷ 0 ∷ 28 ∷ 9 ∷ 0 ∷ 1 ∷ replicate 25 65) ≡ refused_at 23 0
  pub node_longest : (read_chart_of (1 ∷ 0 ∷ 27 ∷ 9 ∷ 0 ∷ 1 ∷ replicate 24 65 ++ asked)).refusal ≡ 0
  pub link_long : read_chart_of (lone ++ (2 ∷ 0 ∷ 10 ∷ replicate 10 1)) ≡ refused_at 23 6
  pub question_short : read_chart_of (lone ++ (3 ∷ 0 ∷ 5 ∷ replicate 5 1)) ≡ refused_at 23 6
  -- S with an on byte of 2, a link's port 0, a node after a link, an end used twice, a question to a node that is not there
  pub on : read_chart_of (set bytes_s 54 2) ≡ refused_at 24 43
  pub port : read_chart_of (set bytes_s 49 0) ≡ refused_at 24 43
  pub late : read_chart_of (take 55 bytes_s ++ (1 ∷ 0 ∷ 3 ∷ 9 ∷ 0 ∷ 40 ∷ [])) ≡ refused_at 25 55
  pub after_question : read_chart_of (lone ++ (asked ++ asked)) ≡ refused_at 25 15
  pub twice : read_chart_of (lone ++ lone) ≡ refused_at 27 6
  pub nowhere : read_chart_of (set bytes_s 123 31) ≡ refused_at 28 115
  pub itself : read_chart_of (set bytes_s 52 1) ≡ refused_at 29 43
  pub used : read_chart_of (set bytes_s 61 2) ≡ refused_at 30 55
  pub unasked : read_chart_of (take 115 bytes_s) ≡ refused_at 31 115
  -- seventeen nodes: 9/0 to 9/16
  pub many : read_chart_of (1 ∷ 0 ∷ 3 ∷ 9 ∷ 0 ∷ 0 ∷ 1 ∷ 0 ∷ 3 ∷ 9 ∷ 0 ∷ 1 ∷ 1 ∷ 0 ∷ 3 ∷ 9 ∷ 0 ∷ 2 ∷ 1 ∷ 0 ∷ 3 ∷ 9 ∷ 0 ∷ 3 ∷ 1 ∷ 0 ∷ 3 ∷ 9 ∷ 0 ∷ 4 ∷ 1 ∷ 0 ∷ 3 ∷ 9 ∷ 0 ∷ 5
      ∷ 1 ∷ 0 ∷ 3 ∷ 9 ∷ 0 ∷ 6 ∷ 1 ∷ 0 ∷ 3 ∷ 9 ∷ 0 ∷ 7 ∷ 1 ∷ 0 ∷ 3 ∷ 9 ∷ 0 ∷ 8 ∷ 1 ∷ 0 ∷ 3 ∷ 9 ∷ 0 ∷ 9 ∷ 1 ∷ 0 ∷ 3 ∷ 9 ∷ 0 ∷ 10 ∷ 1 ∷ 0 ∷ 3 ∷ 9 ∷ 0 ∷ 11
      ∷ 1 ∷ 0 ∷ 3 ∷ 9 ∷ 0 ∷ 12 ∷ 1 ∷ 0 ∷ 3 ∷ 9 ∷ 0 ∷ 13 ∷ 1 ∷ 0 ∷ 3 ∷ 9 ∷ 0 ∷ 14 ∷ 1 ∷ 0 ∷ 3 ∷ 9 ∷ 0 ∷ 15 ∷ 1 ∷ 0 ∷ 3 ∷ 9 ∷ 0 ∷ 16 ∷ []) ≡ refused_at 26 96
  -- a field's bytes: its tag, the length of its body, its body
  pub field : tagged 7 (replicate 258 0) ≡ 7 ∷ 1 ∷ 2 ∷ replicate 258 0

pub cases : Cases
unfolding S S' bytes_s bytes_s' no_chart any_below element_at firsts row station_in_range in_range same_station same_address node_at link_at stray_byte node_in_range end_in_range direction_in_range link_in_range stands_at has_node ends_at has_end node_refusal_by link_refusal_by question_refusal_by node_refusal link_refusal question_refusal is_form link_length tagged bytes_from node_in link_in nothing with_node with_link with_question with_body node_late mixes link_late link_after refusing node_body_refusal link_body_refusal question_body_refusal body_refusal field_refusal walk read_chart_of
cases =
    record {
      whole = refl;
      smallest = refl;
      empty = refl;
      stray = refl;
      cut = refl;
      cut_length = refl;
      directed = refl;
      back = refl;
      direction_3 = refl;
      directed_short = refl;
      plain_after = refl;
      directed_after = refl;
      tag = refl;
      node_short = refl;
      node_long = refl;
      node_longest = refl;
      link_long = refl;
      question_short = refl;
      on = refl;
      port = refl;
      late = refl;
      after_question = refl;
      twice = refl;
      nowhere = refl;
      itself = refl;
      used = refl;
      unasked = refl;
      many = refl;
      field = refl;
    }
