-- The chart's reader (document 01, "The chart"; document 02, Five): the fields one after the other. The first bad field decides, and in it the lowest number.
use Rattle.std.specs.Prelude.{ℕ, suc, zero, ◌+◌, List, Bool, true, false, not, cond, ◌&&◌, ◌||◌, length, get_or, set, ltb, leb, eqb, Result, Ok, Err}
use Rattle.lists.specs.Refusals.{refuse}
use Rattle.refusal.specs.declared.Fault.{Fault}
use Rattle.refusal.specs.Numbers.{number}
use Rattle.address.specs.declared.Station.{Station}
use Rattle.address_bytes.specs.Wide.{station_in}
use Rattle.chart.specs.declared.ChartNode.{ChartNode}
use Rattle.chart.specs.declared.Link.{Link}
use Rattle.chart.specs.declared.Nodes.{Nodes}
use Rattle.chart.specs.declared.Links.{Links}
use Rattle.chart.specs.declared.Chart.{Chart}
use Rattle.chart.specs.Values.{no_chart}
use Rattle.chart.specs.Refusals.{node_refusal, link_refusal, question_refusal}
use Rattle.chart_read.specs.Fields.{node_tag, question_tag, is_form, shortest_node, longest_node, link_length, question_length, tag_at, body_at, past_field, cut_short, node_in, link_in}

-- ---- what is held

-- what was taken of a chart, and whether the question was
pub record SoFar : Type 0 where
  pub chart : Chart
  pub asked : Bool

-- before the first field
unfoldable pub nothing : SoFar
nothing = record { chart = no_chart; asked = false }

-- a node after the others, and a link, whose form is theirs
abbrev pub node_added : Nodes → ChartNode → Nodes
node_added ns n = record { count = ns.count + 1; items = set ns.items ns.count n }

abbrev pub link_added : Links → ℕ → Link → Links
link_added ls form l = record { count = ls.count + 1; form = form; items = set ls.items ls.count l }

-- with one node, one link or the question more
unfoldable pub with_node : SoFar → ChartNode → SoFar
with_node s n =
    let c = s.chart in
    record { chart = record { nodes = node_added c.nodes n; links = c.links; from = c.from; to = c.to }; asked = s.asked }

unfoldable pub with_link : SoFar → ℕ → Link → SoFar
with_link s form l =
    let c = s.chart in
    record { chart = record { nodes = c.nodes; links = link_added c.links form l; from = c.from; to = c.to }; asked = s.asked }

unfoldable pub with_question : SoFar → Station → Station → SoFar
with_question s from to = record { chart = record { nodes = s.chart.nodes; links = s.chart.links; from = from; to = to }; asked = true }

-- with the value of one body more, which has one of the tags
unfoldable pub with_body : SoFar → ℕ → List ℕ → SoFar
with_body s tag b =
    cond (eqb tag node_tag) (with_node s (node_in b))
    (cond (is_form tag) (with_link s tag (link_in b))
    (with_question s (station_in b 0) (station_in b 3)))

-- ---- the number of a field

-- the number that a node, a link of a form or the question gets after what came before it
pub record Refusing : Type 0 where
  pub node : ChartNode → ℕ
  pub link : ℕ → Link → ℕ
  pub question : Station → Station → ℕ

-- a node comes too late after a link or the question
unfoldable pub node_late : SoFar → Bool
node_late s = s.asked || ltb 0 s.chart.links.count

-- links of the other form are there
unfoldable pub mixes : Links → ℕ → Bool
mixes ls form = ltb 0 ls.count && not (eqb ls.form form)

-- a link comes too late after the question, and after a link of the other form
unfoldable pub link_late : SoFar → ℕ → Bool
link_late s form = s.asked || mixes s.chart.links form

unfoldable pub link_after : SoFar → ℕ → Link → ℕ
link_after s form = link_refusal (link_late s form) form s.chart.nodes s.chart.links

-- after what is held; the question comes too late after another
unfoldable pub refusing : SoFar → Refusing
refusing s =
    let c = s.chart in
    record {
      node = node_refusal (node_late s) c.nodes;
      link = link_after s;
      question = question_refusal s.asked c.nodes;
    }

-- a node's body: 23 for a length that the tag does not allow, then the node's own number
unfoldable pub node_body_refusal : (ChartNode → ℕ) → List ℕ → ℕ
node_body_refusal refusal b =
    refuse 23 (ltb (length b) shortest_node)
    (refuse 23 (ltb longest_node (length b))
    (refusal (node_in b)))

-- a link's on byte is 1 on or 0 off, else it is out of range
unfoldable pub link_body_refusal : ℕ → (Link → ℕ) → List ℕ → ℕ
link_body_refusal form refusal b =
    refuse 23 (not (eqb (length b) (link_length form)))
    (refuse 24 (ltb 1 (get_or b 8 0))
    (refusal (link_in b)))

-- the question's body likewise
unfoldable pub question_body_refusal : (Station → Station → ℕ) → List ℕ → ℕ
question_body_refusal refusal b =
    refuse 23 (not (eqb (length b) question_length))
    (refusal (station_in b 0) (station_in b 3))

-- a body by its tag; 22 for any other tag
unfoldable pub body_refusal : Refusing → ℕ → List ℕ → ℕ
body_refusal r tag b =
    cond (eqb tag node_tag) (node_body_refusal r.node b)
    (cond (is_form tag) (link_body_refusal tag (r.link tag) b)
    (cond (eqb tag question_tag) (question_body_refusal r.question b)
    22))

-- the field at a place: 21 where it is cut short
unfoldable pub field_refusal : Refusing → List ℕ → ℕ → ℕ
field_refusal r bytes at = refuse 21 (cut_short bytes at) (body_refusal r (tag_at bytes at) (body_at bytes at))

-- ---- all fields

-- the chart, or the number of the first bad field and the place where it begins
pub record ChartRead : Type 0 where
  pub refusal : ℕ
  pub place : ℕ
  pub chart : Chart

-- a refusal and the place where its field begins, beside a chart of zeros
abbrev pub refused_at : ℕ → ℕ → ChartRead
refused_at k at = record { refusal = k; place = at; chart = no_chart }

-- what the reader's result is as an answer: beside a refusal the chart of zeros
abbrev pub chart_answer : Result Chart Fault → ChartRead
chart_answer (Ok c) = record { refusal = 0; place = 0; chart = c }
chart_answer (Err f) = record { refusal = number f.refusal; place = f.place; chart = no_chart }

-- the input's end: the chart, or 31 at the input's length where the question is missing
abbrev pub at_end : SoFar → ℕ → ChartRead
at_end s long = cond s.asked (record { refusal = 0; place = 0; chart = s.chart }) (refused_at 31 long)

-- after a field: on to the next, or the field's number and its place
abbrev pub onward : ℕ → ℕ → ChartRead → ChartRead
onward zero at later = later
onward (suc k) at later = refused_at (suc k) at

-- the fields from a place on, at most `fuel` of them
unfoldable pub walk : ℕ → SoFar → List ℕ → ℕ → ChartRead
walk zero s bytes at = at_end s (length bytes)
walk (suc fuel) s bytes at =
    cond (leb (length bytes) at) (at_end s (length bytes))
    (onward (field_refusal (refusing s) bytes at) at (walk fuel (with_body s (tag_at bytes at) (body_at bytes at)) bytes (past_field bytes at)))

-- the whole input. Each field has a byte at least, so there are no more fields than bytes
unfoldable pub read_chart_of : List ℕ → ChartRead
read_chart_of bytes = walk (length bytes) nothing bytes 0
