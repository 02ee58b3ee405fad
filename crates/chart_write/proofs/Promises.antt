-- The theorems on charts: read-undoes-write, write-undoes-read, same-number, place-near, reader-numbers, writer-numbers, labels-are-ink.
use Prim.Native.Nat.{ℕ, ◌≤◌}
use mathlib.Core.Path.{◌≡◌, sym, ap, ◌∙◌}
use mathlib.Core.List.{List, ◌++◌}
use native.Mathlib.Omega.{arith}
use lib.ListN.{length, take, drop}
use lib.Seq.{take_at}
use borrow.Author.Tests.{le-ltb}
use Rattle.lists.proofs.Refusals.{taken, or-pass}
use Rattle.chart.specs.declared.Chart.{Chart}
use Rattle.chart.specs.Values.{link_at}
use Rattle.chart_read.specs.Reading.{read_chart_of}
use Rattle.chart_refuse.specs.Refusal.{chart_values_refusal, chart_refusal}
use Rattle.chart_write.specs.Writing.{chart_bytes, chart_write_refusal, chart_after, tidy}
use Rattle.chart_write.specs.Promises.{ChartReadUndoesWrite, ChartWriteUndoesRead, ChartsShort, PlacesNear, SameRefusal}
use Rattle.chart_refuse.proofs.Laws.{passed, node_of, link-of}
use Rattle.chart_write.proofs.Laws.{nodes-most, links-few, length-chart, refusal-none}
use Rattle.chart_write.proofs.Forms.{in-range-said, all_said}
use Rattle.chart_write.proofs.ReadWhole.{read-written}
use Rattle.chart_write.proofs.WriteBack.{read-good}

-- an accepted chart has at most 1,113 bytes
pub chart_short : ChartsShort
chart_short c z =
    let p = passed c z in
    omega (
      arith,
      length-chart c,
      nodes-most c.nodes c.nodes.count (λ i h. (node_of c p i h).short),
      p.few_nodes,
      links-few c.links.form c.links.count p.few_links,
    )

-- within the limits the counts refuse nothing
counted : (c : Chart) → c.nodes.count ≤ 16 → c.links.count ≤ 48 → chart_refusal c ≡ chart_values_refusal c
unfolding chart_refusal
counted c n l = rw (le-ltb 16 c.nodes.count n, le-ltb 48 c.links.count l)

pub same-refusal : SameRefusal
same-refusal c n l s = (read-written c n l (all_said c.links s)).0 ∙ sym (counted c n l)

pub read_back : (c : Chart) → chart_refusal c ≡ 0 → read_chart_of (chart_bytes c) ≡ record { refusal = 0; place = 0; chart = tidy c }
read_back c z =
    let p = passed c z in
    (read-written c p.few_nodes p.few_links (λ i h. in-range-said c.links.form (link_at c.links i) (link-of c p i h).ranged)).1 (sym (counted c p.few_nodes p.few_links) ∙ z)

-- reading undoes writing, of whatever the writer takes
pub read_undoes_write : ChartReadUndoesWrite
unfolding chart_after chart_write_refusal
read_undoes_write c out n w =
    let z = (or-pass (chart_refusal c) _ w.0).0 in
    let b : take n (chart_after c out) ≡ chart_bytes c =
    ap (take n) (taken _ _ w.0) ∙ take_at (chart_bytes c) (drop (length (chart_bytes c)) out) n (sym w.1) in
    record { chart = ap read_chart_of b ∙ read_back c z; short = omega (arith, w.1, chart_short c z) }

-- writing undoes reading, of any bytes that the reader takes
pub write_undoes_read : ChartWriteUndoesRead
unfolding chart_after
write_undoes_read bytes s h out room =
    let c = (read_chart_of bytes).chart in
    let u = (read-good bytes s).undone h in
    let z : chart_refusal c ≡ 0 = counted c u.few_nodes u.few_links ∙ sym (read-written c u.few_nodes u.few_links u.said).0 ∙ ap (λ (b : List ℕ). (read_chart_of b).refusal) u.same ∙ h in
    let l : length (chart_bytes c) ≡ length bytes = ap length u.same in
    let e = refusal-none c (length out) z (omega arith) in
    record {
      refusal = z;
      answer = (e, sym l);
      buffer = taken _ _ e ∙ ap (λ (b : List ℕ). b ++ drop (length b) out) u.same;
      short = omega (arith, chart_short c z);
    }

-- a refusal's place is at most 1,113, however long the input
pub place-near : PlacesNear
place-near bytes s = (read-good bytes s).near
