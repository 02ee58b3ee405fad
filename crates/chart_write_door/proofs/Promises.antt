-- The theorems of reading into a chart's image and writing from it. A chart that was read is tidy, so that the image holds all of it.
use Prim.Native.Nat.{ℕ, ◌≤◌}
use mathlib.Core.Path.{◌≡◌, refl, sym, ap, ap₂, ◌∙◌}
use mathlib.Core.List.{List, ◌++◌}
use native.Mathlib.Omega.{arith}
use lib.Dec.{ltb}
use lib.ListN.{length, take, drop, length-append}
use lib.Seq.{take-append_seam}
use borrow.Author.Tests.{le-ltb, ltb-false}
use Rattle.lists.proofs.Refusals.{pass, or-pass, taken}
use Rattle.buffer.specs.Bytes.{Bytes}
use Rattle.chart.specs.declared.Chart.{Chart}
use Rattle.chart_refuse.specs.Refusal.{chart_refusal}
use Rattle.chart_refuse.proofs.Laws.{passed, node_of}
use Rattle.chart_read.specs.Reading.{ChartRead, read_chart_of}
use Rattle.chart_write.specs.Writing.{chart_bytes, chart_write_refusal, chart_after, tidy}
use Rattle.chart_write.specs.Promises.{ChartReadBack, ChartWrittenBack}
use Rattle.chart_write.proofs.Promises.{read_undoes_write as chart-read-undoes, write_undoes_read as chart-write-undoes}
use Rattle.chart_image.specs.Image.{chart_image_size, chart_image, chart_in}
use Rattle.chart_image.proofs.Undo.{chart-undo, tidy-back}
use Rattle.chart_read_door.specs.Calls.{pz_chart_read_refusal, pz_chart_read_place, pz_chart_read_image}
use Rattle.chart_write_door.specs.Calls.{pz_chart_write_refusal, pz_chart_write_count, pz_chart_write_chart}
use Rattle.chart_write_door.specs.Promises.{ChartImageWrittenBack, ChartImageWriteUndoesRead, pz_chart_written, ChartImageReadBack, ChartImageReadUndoesWrite}

-- a tidy chart that is accepted is held by an image
held : (c : Chart) → chart_refusal c ≡ 0 → (rest : List ℕ) → chart_in (chart_image (tidy c) ++ rest) ≡ tidy c
held c z =
    let p = passed c z in
    tidy-back c p.few_nodes p.few_links (λ i h. (node_of c p i h).short)

-- the image after a chart was read
read-into : (bytes b : List ℕ) (c : Chart) → (read_chart_of bytes).chart ≡ c → pz_chart_read_refusal bytes (length b) ≡ 0 → pz_chart_read_image bytes b ≡ chart_image c ++ drop chart_image_size b
unfolding pz_chart_read_image
read-into bytes b c e z =
    let s = chart-undo.size c in
    taken _ _ z ∙ rw (e, s)

-- from an image that is long enough, the writer's own answer
module _ (b : List ℕ) (long : chart_image_size ≤ length b) where
  refusal-from : (room : ℕ) → pz_chart_write_refusal b room ≡ chart_write_refusal (chart_in b) room
  unfolding pz_chart_write_refusal
  refusal-from room = rw (le-ltb (length b) chart_image_size long)

  chart-from : (out : List ℕ) → pz_chart_write_chart b out ≡ chart_after (chart_in b) out
  unfolding pz_chart_write_chart chart_after
  chart-from out = rw (refusal-from (length out))

-- ---- a chart's bytes read into an image and written again

module _ (bytes b out : List ℕ) (small : Bytes bytes) (z : pz_chart_read_refusal bytes (length b) ≡ 0) (room : length bytes ≤ length out) where
  c : Chart
  c = (read_chart_of bytes).chart

  none : (read_chart_of bytes).refusal ≡ 0
  unfolding pz_chart_read_refusal
  none = (or-pass (read_chart_of bytes).refusal _ z).0

  again : ChartWrittenBack bytes c out
  unfolding c
  again = chart-write-undoes bytes small none out room

  -- what was read is tidy: it is read from the bytes that are written of it
  is-tidy : c ≡ tidy c
  unfolding c
  is-tidy =
      let e : take (length bytes) (chart_after c out) ≡ bytes = ap (take (length bytes)) again.buffer ∙ take-append_seam bytes (drop (length bytes) out) in
      ap (λ (l : List ℕ). (read_chart_of l).chart) (sym e)
      ∙ ap (λ (r : ChartRead). r.chart) (chart-read-undoes c out (length bytes) again.answer).chart

  image : List ℕ
  image = chart_image (tidy c) ++ drop chart_image_size b

  image-is : pz_chart_read_image bytes b ≡ image
  unfolding image c
  image-is = read-into bytes b (tidy c) is-tidy z

  long : chart_image_size ≤ length image
  unfolding image
  long = simp length-append (omega (arith, chart-undo.size (tidy c)))

  chart-is : chart_in image ≡ c
  unfolding image
  chart-is = held c again.refusal (drop chart_image_size b) ∙ sym is-tidy

  -- the writer takes it, and writes as many bytes as were read
  taken-there : (chart_write_refusal c (length out) ≡ 0) × (length bytes ≡ length (chart_bytes c))
  taken-there = again.answer

  refusal-none : pz_chart_write_refusal image (length out) ≡ 0
  refusal-none = refusal-from image long (length out) ∙ ap (λ (x : Chart). chart_write_refusal x (length out)) chart-is ∙ taken-there.0

  count-is : pz_chart_write_count image (length out) ≡ length bytes
  unfolding pz_chart_write_count
  count-is = taken _ _ refusal-none ∙ ap (λ (x : Chart). length (chart_bytes x)) chart-is ∙ sym taken-there.1

  undone : ChartImageWrittenBack bytes b out
  undone =
      record {
        refusal = rw image-is refusal-none;
        written = rw image-is count-is;
        chart = rw image-is (chart-from image long out ∙ ap (λ (x : Chart). chart_after x out) chart-is ∙ again.buffer);
      }

pub write_undoes_read : ChartImageWriteUndoesRead
write_undoes_read = undone

-- ---- an image written as a chart and read again

module _ (b out d : List ℕ) (z : pz_chart_write_refusal b (length out) ≡ 0) (room : chart_image_size ≤ length d) where
  e : Chart
  e = chart_in b

  bytes : List ℕ
  bytes = pz_chart_written b out

  -- a writer that refuses nothing was given an image that is long enough, of a chart that is accepted
  b-long : chart_image_size ≤ length b
  unfolding pz_chart_write_refusal
  b-long = ltb-false (length b) chart_image_size (pass 9 (ltb (length b) chart_image_size) _ z).0

  e-taken : chart_write_refusal e (length out) ≡ 0
  unfolding e
  e-taken = sym (refusal-from b b-long (length out)) ∙ z

  e-accepted : chart_refusal e ≡ 0
  unfolding chart_write_refusal
  e-accepted = (or-pass (chart_refusal e) _ e-taken).0

  back : ChartReadBack e out (length (chart_bytes e))
  back = chart-read-undoes e out (length (chart_bytes e)) (e-taken, refl)

  bytes-is : bytes ≡ take (length (chart_bytes e)) (chart_after e out)
  unfolding bytes pz_chart_write_count e
  bytes-is = ap₂ take (taken _ _ z) (chart-from b b-long out)

  read_is : read_chart_of bytes ≡ record { refusal = 0; place = 0; chart = tidy e }
  read_is = ap read_chart_of bytes-is ∙ back.chart

  read_taken : pz_chart_read_refusal bytes (length d) ≡ 0
  unfolding pz_chart_read_refusal
  read_taken = rw (read_is, le-ltb (length d) chart_image_size room)

  place_none : pz_chart_read_place bytes ≡ 0
  unfolding pz_chart_read_place
  place_none = ap (λ (r : ChartRead). r.place) read_is

  chart-again : chart_in (pz_chart_read_image bytes d) ≡ tidy e
  chart-again =
      ap chart_in (read-into bytes d (tidy e) (ap (λ (r : ChartRead). r.chart) read_is) read_taken)
      ∙ held e e-accepted (drop chart_image_size d)

  read_again : ChartImageReadBack b out d
  unfolding bytes e
  read_again = record { refusal = read_taken; place = place_none; chart = chart-again }

pub read_undoes_write : ChartImageReadUndoesWrite
read_undoes_write = read_again
