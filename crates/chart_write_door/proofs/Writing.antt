-- Laws of writing from a chart's image: what C gets, from the writer's own answer.
use Prim.Native.Nat.{ℕ, ◌<◌, ◌≤◌}
use mathlib.Core.Path.{◌≡◌, sym, ◌∙◌}
use mathlib.Core.List.{List}
use lib.ListN.{length}
use borrow.Author.Tests.{lt-ltb, le-ltb}
use Rattle.lists.specs.Refusals.{unless_refused}
use Rattle.lists.proofs.Refusals.{taken, refused}
use Rattle.chart.specs.declared.Chart.{Chart}
use Rattle.chart_write.specs.Writing.{chart_bytes, chart_write_refusal, chart_after}
use Rattle.chart_image.specs.Image.{chart_in}
use Rattle.chart_write_door.specs.Calls.{pz_chart_write_refusal, pz_chart_write_count, pz_chart_write_chart}

module _ (b out : List ℕ) where
  -- what C gets: the number k, the bytes written w and the buffer o
  abbrev pub Writes : ℕ → ℕ → List ℕ → Type 0
  Writes k w o = (k ≡ pz_chart_write_refusal b (length out)) × (w ≡ pz_chart_write_count b (length out)) × (o ≡ pz_chart_write_chart b out)

  pub write-short : length b < 937 → Writes 10 0 out
  unfolding pz_chart_write_refusal pz_chart_write_count pz_chart_write_chart unless_refused
  write-short h = (rw (lt-ltb (length b) 937 h), rw (lt-ltb (length b) 937 h), rw (lt-ltb (length b) 937 h))

  -- the writer's own answer
  module _ (h : 937 ≤ length b) {c : Chart} (e : c ≡ chart_in b) {o : List ℕ} (x : o ≡ chart_after c out) where
    pub write-refused : {k : ℕ} → k ≡ chart_write_refusal c (length out) → (k ≡ 0 → ⊥) → Writes k 0 o
    unfolding pz_chart_write_refusal pz_chart_write_count pz_chart_write_chart chart_after
    write-refused r n = (
      rw (le-ltb (length b) 937 h, ← e) r,
      rw (le-ltb (length b) 937 h, ← e) (sym (refused _ 0 _ (λ z. n (r ∙ z)))),
      rw (le-ltb (length b) 937 h, ← e) x,
    )

    pub write_done : chart_write_refusal c (length out) ≡ 0 → {n : ℕ} → n ≡ length (chart_bytes c) → Writes 0 n o
    unfolding pz_chart_write_refusal pz_chart_write_count pz_chart_write_chart chart_after
    write_done z w = (
      rw (le-ltb (length b) 937 h, ← e) (sym z),
      rw (le-ltb (length b) 937 h, ← e) (w ∙ sym (taken _ 0 z)),
      rw (le-ltb (length b) 937 h, ← e) x,
    )
