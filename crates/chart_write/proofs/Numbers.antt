-- Which numbers the reader and the writer of charts give.
use Prim.Native.Nat.{ℕ, zero, suc}
use mathlib.Core.Path.{◌≡◌, refl}
use mathlib.Core.List.{List, [], ◌∷◌, ◌++◌}
use mathlib.Core.Bool.{Bool, true, false, not, cond, ◌&&◌, ◌||◌}
use lib.ListN.{length}
use lib.Dec.{ltb, leb, eqb}
use Rattle.lists.specs.Refusals.{among}
use Rattle.lists.proofs.Bools.{or_right}
use Rattle.lists.proofs.Given.{Given, tested, either, first, among-more}
use Rattle.address.specs.declared.Station.{Station}
use Rattle.address.specs.Address.{station_of, station_in_range, same_station}
use Rattle.chart.specs.declared.Nodes.{Nodes}
use Rattle.chart.specs.declared.Links.{Links}
use Rattle.chart.specs.declared.Chart.{Chart}
use Rattle.chart.specs.Values.{node_at, link_at, node_in_range, link_in_range, has_node, has_end}
use Rattle.chart.specs.Refusals.{node_refusal_by, link_refusal_by, question_refusal_by, node_refusal, link_refusal, question_refusal}
use Rattle.chart_read.specs.Fields.{tag_at, body_at, past_field, cut_short}
use Rattle.chart_read.specs.Reading.{ChartRead, SoFar, nothing, refusing, field_refusal, refused_at, at_end, onward, walk, read_chart_of}
use Rattle.chart_read.proofs.Walking.{held_past}
use Rattle.chart_read.proofs.Given.{bad_body_refusals, body_refusals, body-given}
use Rattle.chart_refuse.specs.Refusal.{nodes_before, links_before, node_refusal_at, link_refusal_at, chart_values_refusal, chart_refusal}
use Rattle.chart_write.specs.Writing.{chart_bytes, chart_write_refusal}
use Rattle.chart_write.specs.Promises.{chart_reader_refusals, ReaderNumbers, chart_writer_refusals, WriterNumbers}

-- ---- the writer: nothing comes too late

abbrev W : List ℕ
W = chart_writer_refusals

none_written : Given W 0
none_written = record { is = refl }

node-given : (ns : Nodes) (i : ℕ) → Given W (node_refusal_at ns i)
unfolding node_refusal_at node_refusal node_refusal_by
node-given ns i =
    let n = node_at ns i in
    tested W 23 (ltb 24 n.length) refl
    (tested W 24 (not (node_in_range n)) refl
    (tested W 26 (leb 16 i) refl
    (tested W 27 (has_node (nodes_before ns i) n.station) refl none_written)))

link-given : (ns : Nodes) (ls : Links) (i : ℕ) → Given W (link_refusal_at ns ls i)
unfolding link_refusal_at link_refusal link_refusal_by
link-given ns ls i =
    let l = link_at ls i in
    tested W 24 (not (link_in_range ls.form l)) refl
    (tested W 26 (ltb 16 ns.count) refl
    (tested W 26 (leb 48 i) refl
    (tested W 28 (not (has_node ns (station_of l.a) && has_node ns (station_of l.b))) refl
    (tested W 29 (same_station (station_of l.a) (station_of l.b)) refl
    (tested W 30 (has_end (links_before ls i) l.a || has_end (links_before ls i) l.b) refl none_written)))))

question-given : (ns : Nodes) (from to : Station) → Given W (question_refusal false ns from to)
unfolding question_refusal question_refusal_by
question-given ns from to =
    tested W 24 (not (station_in_range from && station_in_range to)) refl
    (tested W 26 (ltb 16 ns.count) refl
    (tested W 28 (not (has_node ns from && has_node ns to)) refl none_written))

values-given : (c : Chart) → Given W (chart_values_refusal c)
unfolding chart_values_refusal
values-given c =
    either W _ (first W (node_refusal_at c.nodes) none_written (node-given c.nodes) c.nodes.count)
    (either W _ (first W (link_refusal_at c.nodes c.links) none_written (link-given c.nodes c.links) c.links.count) (question-given c.nodes c.from c.to))

-- the counts come first, the room last
refusal-given : (c : Chart) (room : ℕ) → Given W (chart_write_refusal c room)
unfolding chart_write_refusal chart_refusal
refusal-given c room =
    either W (chart_refusal c) (tested W 26 (ltb 16 c.nodes.count) refl (tested W 26 (ltb 48 c.links.count) refl (values-given c)))
    (tested W 10 (ltb room (length (chart_bytes c))) refl none_written)

pub writer-numbers : WriterNumbers
writer-numbers c room = (refusal-given c room).is

-- ---- the reader

abbrev R : List ℕ
R = chart_reader_refusals

none_read : Given R 0
none_read = record { is = refl }

-- a body's numbers are among them
body-read : (n : ℕ) → Given body_refusals n → Given R n
body-read n g = record { is = by (eqb n 0) g.is }
  where
    by : (t : Bool) → (t || among n bad_body_refusals) ≡ true → (t || (eqb n 21 || among n (bad_body_refusals ++ (31 ∷ [])))) ≡ true
    by true h = refl
    by false h = rw (among-more n bad_body_refusals (31 ∷ []) h) (or_right (eqb n 21))

field-given : (s : SoFar) (bytes : List ℕ) (at : ℕ) → Given R (field_refusal (refusing s) bytes at)
unfolding field_refusal
field-given s bytes at = tested R 21 (cut_short bytes at) refl (body-read _ (body-given s (body_at bytes at) (tag_at bytes at)))

read_of : (t : Bool) (a b : ChartRead) → Given R a.refusal → Given R b.refusal → Given R (cond t a b).refusal
read_of true a b p q = p
read_of false a b p q = q

end-given : (s : SoFar) (long : ℕ) → Given R (at_end s long).refusal
end-given s long = read_of s.asked (record { refusal = 0; place = 0; chart = s.chart }) (refused_at 31 long) none_read (record { is = refl })

onward-given : (n at : ℕ) (go : ChartRead) → Given R n → Given R go.refusal → Given R (onward n at go).refusal
onward-given zero at go p q = q
onward-given (suc n) at go p q = p

walk-given : (k : ℕ) (s : SoFar) (bytes : List ℕ) (at : ℕ) → Given R (walk k s bytes at).refusal
unfolding walk
walk-given zero s bytes at = end-given s (length bytes)
walk-given (suc k) s bytes at =
    read_of (leb (length bytes) at) (at_end s (length bytes)) _ (end-given s (length bytes))
    (onward-given (field_refusal (refusing s) bytes at) at (walk k (held_past s bytes at) bytes (past_field bytes at)) (field-given s bytes at)
    (walk-given k (held_past s bytes at) bytes (past_field bytes at)))

pub reader-numbers : ReaderNumbers
unfolding read_chart_of
reader-numbers bytes = (walk-given (length bytes) nothing bytes 0).is
