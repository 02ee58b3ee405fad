-- Lines of the sheet by example.
use Rattle.std.specs.Prelude.{◌≡◌, refl, true, false, []}
use Rattle.chart.specs.Sample.{station_s, node_s, way_s, link_s, hill}
use Rattle.text.specs.Marks.{ascii}
use Rattle.text.specs.Decimal.{digits}
use Rattle.sheet_lines.specs.Lines.{station_text, end_text, label_text, node_line, direction_text, link_line, question_line, counts_line, refused_line}

-- a label, an empty one; a link that is on, and one that is off; one that goes out only, and one back only; the question, the counts, a refusal
pub record Cases : Type 0 where
  pub labelled : node_line 0 (node_s 20 hill) ≡ ascii "0 9/20 Hill\n"
  pub unlabelled : node_line 15 (node_s 1023 []) ≡ ascii "15 9/1023\n"
  pub on : link_line 0 (link_s 1 2 20 1 true) ≡ ascii "0 9/1/2 9/20/1 on both\n"
  pub off : link_line 47 (link_s 1 4 30 63 false) ≡ ascii "47 9/1/4 9/30/63 off both\n"
  pub out : link_line 1 (way_s 1 3 21 1 true 1) ≡ ascii "1 9/1/3 9/21/1 on out\n"
  pub back : link_line 2 (way_s 20 2 30 1 false 2) ≡ ascii "2 9/20/2 9/30/1 off back\n"
  pub asked : question_line (station_s 1) (station_s 30) ≡ ascii "from 9/1 to 9/30\n"
  pub counts : counts_line 4 6 ≡ ascii "nodes 4 links 6\n"
  pub refused : refused_line 24 115 ≡ ascii "refused 24 at 115\n"

pub cases : Cases
unfolding digits station_text end_text label_text node_line direction_text link_line question_line counts_line refused_line
cases = record { labelled = refl; unlabelled = refl; on = refl; off = refl; out = refl; back = refl; asked = refl; counts = refl; refused = refl }
