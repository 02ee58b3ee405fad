-- The chart's writer (document 01, "The chart"; document 02, Five): the bytes of a chart given as values, and what becomes of the buffer that is lent.
use Rattle.std.specs.Prelude.{ℕ, ◌+◌, ◌*◌, List, [], ◌∷◌, ◌++◌, Bool, cond, length, eqb, ltb, Result}
use Rattle.lists.specs.Places.{element_at, firsts, row, joined}
use Rattle.lists.specs.Refusals.{refuse, or_else}
use Rattle.refusal.specs.declared.Refusal.{Refusal}
use Rattle.refusal.specs.Numbers.{Answers}
use Rattle.buffer.specs.Writing.{Written, wrote_unless, lent_after}
use Rattle.address.specs.declared.Station.{Station}
use Rattle.address_bytes.specs.Wide.{station_bytes, address_bytes}
use Rattle.chart.specs.declared.ChartNode.{ChartNode}
use Rattle.chart.specs.declared.Link.{Link}
use Rattle.chart.specs.declared.Nodes.{Nodes}
use Rattle.chart.specs.declared.Links.{Links}
use Rattle.chart.specs.declared.Chart.{Chart}
use Rattle.chart.specs.Values.{most_nodes, most_links, longest_label, plain, directed, no_node, no_link, node_at, link_at}
use Rattle.chart_read.specs.Fields.{node_tag, question_tag, longest_node, directed_length, link_length, question_length, tagged}
use Rattle.chart_refuse.specs.Refusal.{chart_refusal}

-- a node's body: its station, and as many bytes of label as it says
unfoldable pub node_body : ChartNode → List ℕ
node_body n = station_bytes n.station ++ firsts (element_at 0 n.label) n.length

-- 1 on, 0 off
abbrev pub on_byte : Bool → ℕ
on_byte on = cond on 1 0

-- the directed form alone says a direction
unfoldable pub direction_bytes : ℕ → ℕ → List ℕ
direction_bytes form d = cond (eqb form directed) (d ∷ []) []

-- a link's body: its two ends, whether it is on, and its direction where the form says it
unfoldable pub link_body : ℕ → Link → List ℕ
link_body form l = address_bytes l.a ++ address_bytes l.b ++ (on_byte l.on ∷ direction_bytes form l.direction)

-- the question's body: from and to
unfoldable pub question_body : Station → Station → List ℕ
question_body from to = station_bytes from ++ station_bytes to

-- the fields
unfoldable pub node_field : ChartNode → List ℕ
node_field n = tagged node_tag (node_body n)

unfoldable pub link_field : ℕ → Link → List ℕ
link_field form l = tagged form (link_body form l)

unfoldable pub question_field : Station → Station → List ℕ
question_field from to = tagged question_tag (question_body from to)

-- the sizes of a field's tag and length, of a link's field and of the question's, and the largest of a node's
abbrev pub head_size : ℕ
head_size = 3

abbrev pub link_field_size : ℕ → ℕ
link_field_size form = head_size + link_length form

abbrev pub question_field_size : ℕ
question_field_size = head_size + question_length

abbrev pub longest_node_field : ℕ
longest_node_field = head_size + longest_node

-- the most bytes of nodes: 16 fields of 30 bytes, 480
abbrev pub most_node_bytes : ℕ
most_node_bytes = longest_node_field * most_nodes

-- the longest chart: these, 48 links of 13 and a question of 9, 1,113
abbrev pub longest_chart : ℕ
longest_chart = most_node_bytes + (head_size + directed_length) * most_links + question_field_size

-- a chart's bytes: its nodes, then its links, then the question
unfoldable pub chart_bytes : Chart → List ℕ
chart_bytes c =
    joined node_field (node_at c.nodes) c.nodes.count
    ++ (joined (link_field c.links.form) (link_at c.links) c.links.count
    ++ question_field c.from c.to)

-- the writer's number: the chart's own, then 10
unfoldable pub chart_write_refusal : Chart → ℕ → ℕ
chart_write_refusal c room = or_else (chart_refusal c) (refuse 10 (ltb room (length (chart_bytes c))) 0)

-- the number of bytes written, or the refusal
unfoldable pub write_chart_of : Chart → ℕ → Written
write_chart_of c room = wrote_unless (chart_write_refusal c room) (length (chart_bytes c))

-- the same of the writer's result as the code has it
abbrev pub WriteAnswers : Chart → ℕ → Result ℕ Refusal → Type 0
WriteAnswers c room r = Answers r (chart_write_refusal c room) (length (chart_bytes c))

-- what the buffer then holds
unfoldable pub chart_after : Chart → List ℕ → List ℕ
chart_after c out = lent_after (chart_write_refusal c (length out)) (chart_bytes c) out

-- ---- what a writer does not look at, at zero

-- the label's bytes past its length
unfoldable pub tidy_node : ChartNode → ChartNode
tidy_node n = record { station = n.station; length = n.length; label = row longest_label 0 (element_at 0 n.label) n.length }

-- the node at a place, tidied
unfoldable pub tidy_at : Nodes → ℕ → ChartNode
tidy_at ns i = tidy_node (node_at ns i)

-- the form without links: it is read as plain
unfoldable pub tidy_form : Links → ℕ
tidy_form ls = cond (eqb ls.count 0) plain ls.form

-- and the places past the counts
unfoldable pub tidy : Chart → Chart
tidy c =
    record {
      nodes = record { count = c.nodes.count; items = row most_nodes no_node (tidy_at c.nodes) c.nodes.count };
      links = record { count = c.links.count; form = tidy_form c.links; items = row most_links no_link (link_at c.links) c.links.count };
      from = c.from;
      to = c.to;
    }
