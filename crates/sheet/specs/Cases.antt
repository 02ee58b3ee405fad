-- Document 01's sheet of S whole, computed from the definitions and from its 124 bytes; the same in the directed form; and sheets at the edges.
use Rattle.std.specs.Prelude.{ℕ, ◌≡◌, refl, List, [], ◌∷◌, ◌++◌, set, replicate}
use Rattle.lists.specs.Places.{any_below, first_from, first_below, element_at, firsts, row, joined}
use Rattle.lists.specs.Refusals.{unless_refused}
use Rattle.address.specs.Address.{station_in_range, in_range, same_station, same_address}
use Rattle.chart.specs.Values.{no_chart, node_at, link_at, stray_byte, node_in_range, end_in_range, direction_in_range, link_in_range, stands_at, has_node, ends_at, has_end}
use Rattle.chart.specs.Refusals.{node_refusal_by, link_refusal_by, question_refusal_by, node_refusal, link_refusal, question_refusal}
use Rattle.chart.specs.Sample.{bytes_s, bytes_s'}
use Rattle.chart_read.specs.Fields.{is_form, link_length, bytes_from, node_in, link_in}
use Rattle.chart_read.specs.Reading.{nothing, with_node, with_link, with_question, with_body, node_late, mixes, link_late, link_after, refusing, node_body_refusal, link_body_refusal, question_body_refusal, body_refusal, field_refusal, walk, read_chart_of}
use Rattle.route.specs.Route.{also, only}
use Rattle.route.specs.All.{up_from, links_from, over, tries, routes, unmet, all_from, all_routes}
use Rattle.chart_net.specs.Net.{station_place, goes_out, goes_back, far_end, chart_net, start, routes_of, routes_between}
use Rattle.text.specs.Marks.{ascii}
use Rattle.text.specs.Decimal.{digits}
use Rattle.sheet_lines.specs.Lines.{counts_line, refused_line}
use Rattle.sheet_lines.specs.Lines.{station_text, end_text, label_text, node_line, direction_text, link_line, question_line}
use Rattle.sheet_routes.specs.RouteLines.{places_text, route_line, list_text}
use Rattle.sheet.specs.Sheet.{line_at, chart_text, read_text, sheet_text}

-- the sheet of S
unfoldable pub text_s : List ℕ
text_s =
    ascii "nodes 4 links 6\n"
    ++ ascii "0 9/1 Control\n"
    ++ ascii "1 9/20 Hill\n"
    ++ ascii "2 9/21 Hill\n"
    ++ ascii "3 9/30 Quay\n"
    ++ ascii "0 9/1/2 9/20/1 on both\n"
    ++ ascii "1 9/1/3 9/21/1 on both\n"
    ++ ascii "2 9/20/2 9/30/1 on both\n"
    ++ ascii "3 9/21/2 9/30/2 on both\n"
    ++ ascii "4 9/20/3 9/21/3 on both\n"
    ++ ascii "5 9/1/4 9/30/3 off both\n"
    ++ ascii "from 9/1 to 9/30\n"
    ++ ascii "0 2\n"
    ++ ascii "0 4 3\n"
    ++ ascii "1 3\n"
    ++ ascii "1 4 2\n"
    ++ ascii "end\n"

-- S with its link 0 back only: its bytes, and its sheet
unfoldable pub bytes_back : List ℕ
bytes_back = set bytes_s' 55 2

unfoldable pub text_back : List ℕ
text_back =
    ascii "nodes 4 links 6\n"
    ++ ascii "0 9/1 Control\n"
    ++ ascii "1 9/20 Hill\n"
    ++ ascii "2 9/21 Hill\n"
    ++ ascii "3 9/30 Quay\n"
    ++ ascii "0 9/1/2 9/20/1 on back\n"
    ++ ascii "1 9/1/3 9/21/1 on both\n"
    ++ ascii "2 9/20/2 9/30/1 on both\n"
    ++ ascii "3 9/21/2 9/30/2 on both\n"
    ++ ascii "4 9/20/3 9/21/3 on both\n"
    ++ ascii "5 9/1/4 9/30/3 off both\n"
    ++ ascii "from 9/1 to 9/30\n"
    ++ ascii "1 3\n"
    ++ ascii "1 4 2\n"
    ++ ascii "end\n"

-- one node, 9/1 without a label, asked from it to itself
abbrev pub bytes_one : List ℕ
bytes_one = 1 ∷ 0 ∷ 3 ∷ 9 ∷ 0 ∷ 1 ∷ 3 ∷ 0 ∷ 6 ∷ 9 ∷ 0 ∷ 1 ∷ 9 ∷ 0 ∷ 1 ∷ []

-- S, in either form, and with a link that goes one way; an empty label and an empty route; the empty input; a node out of range; 4,097 bytes
pub record Cases : Type 0 where
  pub whole : sheet_text bytes_s ≡ text_s
  pub directed : sheet_text bytes_s' ≡ text_s
  pub back : sheet_text bytes_back ≡ text_back
  pub one : sheet_text bytes_one ≡ ascii "nodes 1 links 0\n0 9/1\nfrom 9/1 to 9/1\n-\nend\n"
  pub none : sheet_text [] ≡ ascii "refused 31 at 0\n"
  pub bad : sheet_text (1 ∷ 0 ∷ 3 ∷ 9 ∷ 4 ∷ 0 ∷ []) ≡ ascii "refused 24 at 0\n"
  pub long : sheet_text (replicate 4097 1) ≡ ascii "too long\n"

pub cases : Cases
unfolding sheet_text read_text chart_text line_at joined station_text end_text label_text node_line direction_text link_line counts_line question_line refused_line places_text route_line list_text digits read_chart_of walk unless_refused nothing no_chart field_refusal body_refusal refusing node_body_refusal link_body_refusal question_body_refusal node_late mixes link_late link_after is_form link_length node_in link_in bytes_from with_body with_node with_link with_question node_refusal_by link_refusal_by question_refusal_by node_refusal link_refusal question_refusal node_in_range link_in_range end_in_range direction_in_range station_in_range in_range same_station same_address has_node has_end stands_at ends_at node_at link_at stray_byte any_below first_below first_from element_at firsts row also only up_from links_from over tries routes unmet all_from all_routes station_place goes_out goes_back far_end chart_net start routes_of routes_between bytes_s bytes_s' bytes_back text_s text_back
cases = record { whole = refl; directed = refl; back = refl; one = refl; none = refl; bad = refl; long = refl }
