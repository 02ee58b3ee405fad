-- Tagged fields (document 01, "The chart"; document 02, Five): a one-byte tag, a two-byte length, then the body; and what a body of each tag says.
use Rattle.std.specs.Prelude.{ℕ, ◌+◌, ◌-◌, List, ◌∷◌, ◌++◌, Bool, ◌||◌, cond, length, get_or, take, drop, ltb, eqb}
use Rattle.buffer.specs.Bytes.{word_at, word_bytes}
use Rattle.lists.specs.Places.{row}
use Rattle.address_bytes.specs.Wide.{station_in, address_in}
use Rattle.chart.specs.declared.ChartNode.{ChartNode}
use Rattle.chart.specs.declared.Link.{Link}
use Rattle.chart.specs.Values.{longest_label, plain, directed, both_ways}

-- the tags. A link's is its form
abbrev pub node_tag : ℕ
node_tag = 1

abbrev pub question_tag : ℕ
question_tag = 3

unfoldable pub is_form : ℕ → Bool
is_form tag = eqb tag plain || eqb tag directed

-- the lengths of a body: a node's is 3 to 27 by its label, a link's 9, or 10 with its direction, the question's 6
abbrev pub shortest_node : ℕ
shortest_node = 3

abbrev pub longest_node : ℕ
longest_node = 27

abbrev pub plain_length : ℕ
plain_length = 9

abbrev pub directed_length : ℕ
directed_length = 10

unfoldable pub link_length : ℕ → ℕ
link_length form = cond (eqb form directed) directed_length plain_length

abbrev pub question_length : ℕ
question_length = 6

-- a field as bytes: its tag, the length of its body in two bytes, its body
unfoldable pub tagged : ℕ → List ℕ → List ℕ
tagged tag body = tag ∷ word_bytes (length body) ++ body

-- the field that begins at a place: its tag, its body, and the place past it
abbrev pub tag_at : List ℕ → ℕ → ℕ
tag_at bytes at = get_or bytes at 0

abbrev pub body_at : List ℕ → ℕ → List ℕ
body_at bytes at = take (word_at bytes (at + 1)) (drop (at + 3) bytes)

abbrev pub past_field : List ℕ → ℕ → ℕ
past_field bytes at = at + 3 + word_at bytes (at + 1)

-- the field is cut short, in its tag and length (a byte past the end counts as 0) or in its body
abbrev pub cut_short : List ℕ → ℕ → Bool
cut_short bytes at = ltb (length bytes) (past_field bytes at)

-- the bytes from a place on
unfoldable pub bytes_from : List ℕ → ℕ → ℕ → ℕ
bytes_from b at i = get_or b (at + i) 0

-- the node that a body says: a station, and its label in a row of 24
unfoldable pub node_in : List ℕ → ChartNode
node_in b =
    record {
      station = station_in b 0;
      length = length b - shortest_node;
      label = row longest_label 0 (bytes_from b 3) (length b - shortest_node);
    }

-- the link: two ends, whether it is on, and its direction; a plain one's body ends before it, and it goes both ways
unfoldable pub link_in : List ℕ → Link
link_in b = record { a = address_in b 0; b = address_in b 4; on = eqb (get_or b 8 0) 1; direction = get_or b 9 both_ways }
