-- The lines of the printed sheet but its routes (document 01, "The printed sheet"; document 02, Five), as ASCII codes; each ends with one line feed.
-- `a ++ b ++ c` is `(a ++ b) ++ c`: what was laid is joined in the same order.
use Rattle.std.specs.Prelude.{ℕ, Bool, true, false, cond, eqb, List, [], ◌∷◌, ◌++◌, take}
use Rattle.address.specs.declared.Station.{Station}
use Rattle.address.specs.declared.Address.{Address}
use Rattle.address.specs.Address.{station_of}
use Rattle.chart.specs.declared.ChartNode.{ChartNode}
use Rattle.chart.specs.declared.Link.{Link}
use Rattle.chart.specs.Values.{both_ways, out_only}
use Rattle.text.specs.Marks.{ascii, blank, slash, lf}
use Rattle.text.specs.Decimal.{decimal}

-- brigade/node
unfoldable pub station_text : Station → List ℕ
station_text s = decimal s.brigade ++ slash ++ decimal s.node.0

-- brigade/node/port
unfoldable pub end_text : Address → List ℕ
end_text e = station_text (station_of e) ++ slash ++ decimal e.port.0

-- a blank and the label; an empty label leaves out its blank as well
unfoldable pub label_text : List ℕ → List ℕ
label_text [] = []
label_text (x ∷ xs) = blank ++ (x ∷ xs)

-- a node: its place, its station, its label
unfoldable pub node_line : ℕ → ChartNode → List ℕ
node_line i n = decimal i ++ blank ++ station_text n.station ++ label_text (take n.length n.label) ++ lf

-- whether a link is on
abbrev pub on_off : Bool → List ℕ
on_off true = ascii "on"
on_off false = ascii "off"

-- its direction: 0, 1 and 2
unfoldable pub direction_text : ℕ → List ℕ
direction_text d = cond (eqb d both_ways) (ascii "both") (cond (eqb d out_only) (ascii "out") (ascii "back"))

-- a link: its place, its two ends, whether it is on, its direction
unfoldable pub link_line : ℕ → Link → List ℕ
link_line i l = decimal i ++ blank ++ end_text l.a ++ blank ++ end_text l.b ++ blank ++ on_off l.on ++ blank ++ direction_text l.direction ++ lf

-- the question
unfoldable pub question_line : Station → Station → List ℕ
question_line from to = ascii "from " ++ station_text from ++ ascii " to " ++ station_text to ++ lf

-- the first line: the two counts
unfoldable pub counts_line : ℕ → ℕ → List ℕ
counts_line nodes links = ascii "nodes " ++ decimal nodes ++ ascii " links " ++ decimal links ++ lf

-- a refused chart: the number and the place
unfoldable pub refused_line : ℕ → ℕ → List ℕ
refused_line number place = ascii "refused " ++ decimal number ++ ascii " at " ++ decimal place ++ lf
