-- Charts are read and written and each undoes the other, in either form (document 01, "The chart"; document 02, Five): what that says of the definitions. proofs/Promises.antt has the theorems.
use Rattle.std.specs.Prelude.{ℕ, ◌<◌, ◌≤◌, ◌≡◌, List, [], ◌∷◌, ◌++◌, true, false, length, take, drop, replicate, Ok}
use Rattle.lists.specs.Places.{any_below, row}
use Rattle.lists.specs.Refusals.{among}
use Rattle.buffer.specs.Bytes.{Bytes}
use Rattle.chart.specs.declared.ChartNode.{ChartNode}
use Rattle.chart.specs.declared.Nodes.{Nodes}
use Rattle.chart.specs.declared.Links.{Links}
use Rattle.chart.specs.declared.Chart.{Chart}
use Rattle.chart.specs.Values.{most_nodes, most_links, longest_label, plain, both_ways, no_node, node_at, link_at, stray_byte}
use Rattle.chart_read.specs.Fields.{is_form}
use Rattle.chart_read.specs.Reading.{read_chart_of}
use Rattle.chart_refuse.specs.Refusal.{chart_refusal}
use Rattle.chart_write.specs.Writing.{longest_chart, chart_bytes, chart_write_refusal, WriteAnswers, chart_after, tidy}

-- reading undoes writing: the n bytes that were written are read as the chart, with what a writer does not look at at zero
pub record ChartReadBack (c : Chart) (out : List ℕ) (n : ℕ) : Type 0 where
  pub chart : read_chart_of (take n (chart_after c out)) ≡ record { refusal = 0; place = 0; chart = tidy c }
  pub short : n ≤ longest_chart

abbrev pub ChartReadUndoesWrite : Type 0
ChartReadUndoesWrite = (c : Chart) (out : List ℕ) (n : ℕ) → WriteAnswers c (length out) (Ok n) → ChartReadBack c out n

-- writing undoes reading: the chart that was read is taken by the writer in any buffer with room, and its bytes are the input
pub record ChartWrittenBack (bytes : List ℕ) (c : Chart) (out : List ℕ) : Type 0 where
  pub refusal : chart_refusal c ≡ 0
  pub answer : WriteAnswers c (length out) (Ok (length bytes))
  pub buffer : chart_after c out ≡ bytes ++ drop (length bytes) out
  pub short : length bytes ≤ longest_chart

abbrev pub ChartWriteUndoesRead : Type 0
ChartWriteUndoesRead = (bytes : List ℕ) → Bytes bytes → (read_chart_of bytes).refusal ≡ 0 → (out : List ℕ) → length bytes ≤ length out
    → ChartWrittenBack bytes (read_chart_of bytes).chart out

-- an accepted chart has at most 1,113 bytes, and a refusal's place is at most that, however long the input
abbrev pub ChartsShort : Type 0
ChartsShort = (c : Chart) → chart_refusal c ≡ 0 → length (chart_bytes c) ≤ longest_chart

abbrev pub PlacesNear : Type 0
PlacesNear = (bytes : List ℕ) → Bytes bytes → (read_chart_of bytes).place ≤ longest_chart

-- the bytes of these links say all of them: they are in one of the two forms, and where that is the plain one they go both ways
pub record Sayable (ls : Links) : Type 0 where
  pub form : is_form ls.form ≡ true
  pub ways : (i : ℕ) → i < ls.count → ls.form ≡ plain → (link_at ls i).direction ≡ both_ways

-- a chart whose counts are within their limits and whose bytes say its links has the number that the reader gives on its bytes
abbrev pub SameRefusal : Type 0
SameRefusal = (c : Chart) → c.nodes.count ≤ most_nodes → c.links.count ≤ most_links → Sayable c.links → (read_chart_of (chart_bytes c)).refusal ≡ chart_refusal c

-- the numbers that the reader gives
abbrev pub chart_reader_refusals : List ℕ
chart_reader_refusals = 0 ∷ 21 ∷ 22 ∷ 23 ∷ 24 ∷ 25 ∷ 26 ∷ 27 ∷ 28 ∷ 29 ∷ 30 ∷ 31 ∷ []

abbrev pub ReaderNumbers : Type 0
ReaderNumbers = (bytes : List ℕ) → among (read_chart_of bytes).refusal chart_reader_refusals ≡ true

-- the numbers that the writer gives. Not 21, 22, 25 and 31: it works from values, and puts the fields in order itself
abbrev pub chart_writer_refusals : List ℕ
chart_writer_refusals = 0 ∷ 10 ∷ 23 ∷ 24 ∷ 26 ∷ 27 ∷ 28 ∷ 29 ∷ 30 ∷ []

abbrev pub WriterNumbers : Type 0
WriterNumbers = (c : Chart) (room : ℕ) → among (chart_write_refusal c room) chart_writer_refusals ≡ true

-- ---- labels are ink

-- the node without its label
unfoldable pub unlabelled_at : Nodes → ℕ → ChartNode
unlabelled_at ns i = record { station = (node_at ns i).station; length = 0; label = replicate 24 0 }

-- the chart with all its labels empty
unfoldable pub unlabelled : Chart → Chart
unlabelled c =
    record {
      nodes = record { count = c.nodes.count; items = row most_nodes no_node (unlabelled_at c.nodes) c.nodes.count };
      links = c.links;
      from = c.from;
      to = c.to;
    }

-- each label is short enough and of bytes that a label may have
pub record LabelsInRange (ns : Nodes) : Type 0 where
  pub short : (i : ℕ) → i < ns.count → (node_at ns i).length ≤ longest_label
  pub bytes : (i : ℕ) → i < ns.count → any_below (stray_byte (node_at ns i).label) (node_at ns i).length ≡ false

-- no rule depends on labels: equal or empty ones make no difference to the refusal
abbrev pub LabelsAreInk : Type 0
LabelsAreInk = (c : Chart) → LabelsInRange c.nodes → chart_refusal c ≡ chart_refusal (unlabelled c)
