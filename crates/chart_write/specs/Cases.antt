-- S written in either form (document 02, Five): its bytes, the room it asks for, and what is not looked at.
use Rattle.std.specs.Prelude.{ℕ, ◌≡◌, refl, true, false, List, [], ◌∷◌, ◌++◌, replicate, set, Ok, Err}
use Rattle.lists.specs.Chains.{first_refusal_below}
use Rattle.lists.specs.Places.{any_below, element_at, firsts, row, joined}
use Rattle.lists.specs.Refusals.{unless_refused}
use Rattle.refusal.specs.declared.Refusal.TheVariants.{NoRoom, ChartRange, ChartStranger}
use Rattle.address.specs.Address.{station_in_range, in_range, same_station, same_address}
use Rattle.chart.specs.declared.ChartNode.{ChartNode}
use Rattle.chart.specs.declared.Chart.{Chart}
use Rattle.chart.specs.Values.{no_chart, node_at, link_at, stray_byte, node_in_range, end_in_range, direction_in_range, link_in_range, stands_at, has_node, ends_at, has_end}
use Rattle.chart.specs.Refusals.{node_refusal_by, link_refusal_by, question_refusal_by, node_refusal, link_refusal, question_refusal}
use Rattle.chart.specs.Sample.{station_s, node_s, link_s, S, bytes_s, S', bytes_s'}
use Rattle.chart_read.specs.Fields.{link_length, tagged}
use Rattle.chart_refuse.specs.Refusal.{node_refusal_at, link_refusal_at, chart_values_refusal, chart_refusal}
use Rattle.chart_write.specs.Writing.{longest_chart, node_body, direction_bytes, link_body, question_body, node_field, link_field, question_field, chart_bytes, chart_write_refusal, WriteAnswers, chart_after, tidy_node, tidy_at, tidy_form, tidy}

-- S with a link at an unused place, and a byte past its first label
abbrev pub strewn : Chart
strewn =
    record {
      nodes = record { count = 4; items = set S.nodes.items 0 (record { station = station_s 1; length = 7; label = set (node_at S.nodes 0).label 7 65 }) };
      links = record { count = 6; form = 2; items = set S.links.items 6 (link_s 1 0 1 0 true) };
      from = S.from;
      to = S.to;
    }

-- so many links of S in a form
abbrev pub formed : ℕ → ℕ → Chart
formed n form = record { nodes = S.nodes; links = record { count = n; form = form; items = S.links.items }; from = S.from; to = S.to }

pub record Cases : Type 0 where
  pub bytes : chart_bytes S ≡ bytes_s
  pub directed : chart_bytes S' ≡ bytes_s'
  pub fits : WriteAnswers S 124 (Ok 124)
  pub too_long : WriteAnswers S 123 (Err NoRoom)
  pub refused : WriteAnswers no_chart 0 (Err ChartStranger)
  pub buffer : chart_after S (replicate 124 7 ++ (8 ∷ [])) ≡ bytes_s ++ (8 ∷ [])
  pub left : chart_after S (7 ∷ 8 ∷ []) ≡ 7 ∷ 8 ∷ []
  -- what is not looked at is neither written nor refused
  pub unlooked : chart_bytes strewn ≡ bytes_s
  pub unrefused : WriteAnswers strewn 124 (Ok 124)
  pub tidied : tidy strewn ≡ S
  -- a form that is none of the two, with links and without
  pub form_3 : WriteAnswers (formed 6 3) 2000 (Err ChartRange)
  pub form_of_none : WriteAnswers (formed 0 3) 2000 (Ok 52)
  pub same_without : chart_bytes (formed 0 3) ≡ chart_bytes (formed 0 2)
  pub tidied_form : (tidy (formed 0 3)).links.form ≡ 2
  -- 16 nodes of 30, 48 links of 13, a question of 9
  pub longest : longest_chart ≡ 1113

pub cases : Cases
unfolding S bytes_s S' bytes_s' no_chart first_refusal_below any_below element_at firsts row joined unless_refused station_in_range in_range same_station same_address node_at link_at stray_byte node_in_range end_in_range direction_in_range link_in_range stands_at has_node ends_at has_end node_refusal_by link_refusal_by question_refusal_by node_refusal link_refusal question_refusal link_length tagged node_refusal_at link_refusal_at chart_values_refusal chart_refusal node_body direction_bytes link_body question_body node_field link_field question_field chart_bytes chart_write_refusal chart_after tidy_node tidy_at tidy_form tidy
cases =
    record {
      bytes = refl;
      directed = refl;
      fits = (refl, refl);
      too_long = refl;
      refused = refl;
      buffer = refl;
      left = refl;
      unlooked = refl;
      unrefused = (refl, refl);
      tidied = refl;
      form_3 = refl;
      form_of_none = (refl, refl);
      same_without = refl;
      tidied_form = refl;
      longest = refl;
    }
