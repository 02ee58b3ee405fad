-- Laws of reading into a chart's image: what C gets, from what each step gives.
use Prim.Native.Nat.{ℕ, ◌<◌, ◌≤◌}
use mathlib.Core.Path.{◌≡◌, sym, ap, ◌∙◌}
use mathlib.Core.List.{List, ◌++◌}
use lib.ListN.{length, drop}
use lib.Seq.{sets}
use borrow.Author.Tests.{lt-ltb, le-ltb}
use Rattle.lists.specs.Refusals.{unless_refused}
use Rattle.lists.proofs.Refusals.{refused}
use Rattle.lists.proofs.Chains.{or-stops}
use Rattle.lists.proofs.Stores.{sets-front}
use Rattle.buffer.specs.Bytes.{Bytes}
use Rattle.chart.specs.declared.Chart.{Chart}
use Rattle.chart_read.specs.Reading.{read_chart_of}
use Rattle.chart_write.proofs.Promises.{place-near}
use Rattle.chart_image.specs.Image.{chart_image}
use Rattle.chart_image.proofs.Laws.{image-size}
use Rattle.chart_read_door.specs.Calls.{pz_chart_read_refusal, pz_chart_read_place, pz_chart_read_image}

module _ (bytes b : List ℕ) where
  -- what C gets: the number k, the place p and the image o
  abbrev pub Reads : ℕ → ℕ → List ℕ → Type 0
  Reads k p o = (k ≡ pz_chart_read_refusal bytes (length b)) × (p ≡ pz_chart_read_place bytes) × (o ≡ pz_chart_read_image bytes b)

  pub near : Bytes bytes → {p : ℕ} → p ≡ (read_chart_of bytes).place → p ≤ 1113
  near h e = rw e (place-near bytes h)

  pub read-refused : {k p : ℕ} → k ≡ (read_chart_of bytes).refusal → p ≡ (read_chart_of bytes).place → (k ≡ 0 → ⊥) → Reads k p b
  unfolding pz_chart_read_refusal pz_chart_read_place pz_chart_read_image
  read-refused e q h = (or-stops _ e h, q, sym (refused _ b _ (λ z. h (or-stops _ e h ∙ z))))

  -- the reader refuses nothing
  module _ (z : (read_chart_of bytes).refusal ≡ 0) (q : (read_chart_of bytes).place ≡ 0) where
    pub read_short : length b < 937 → Reads 10 0 b
    unfolding pz_chart_read_refusal pz_chart_read_place pz_chart_read_image unless_refused
    read_short h = (rw (z, lt-ltb (length b) 937 h), sym q, rw (z, lt-ltb (length b) 937 h))

    pub read_done : 937 ≤ length b → {c : Chart} → c ≡ (read_chart_of bytes).chart → {o : List ℕ} → o ≡ sets b 0 (chart_image c) → Reads 0 0 o
    unfolding pz_chart_read_refusal pz_chart_read_place pz_chart_read_image unless_refused
    read_done h g e =
        let i = chart_image (read_chart_of bytes).chart in
        let f : sets b 0 i ≡ i ++ drop (length i) b = sets-front b i (rw (image-size (read_chart_of bytes).chart) h) in
        (rw (z, le-ltb (length b) 937 h), sym q, rw (z, le-ltb (length b) 937 h) (e ∙ ap (λ (x : Chart). sets b 0 (chart_image x)) g ∙ f))
