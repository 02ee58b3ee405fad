-- What reading into a chart's image and writing from one say taken together. proofs/Promises.antt has the theorems.
use Rattle.std.specs.Prelude.{ℕ, ◌≤◌, ◌≡◌, List, ◌++◌, length, take, drop}
use Rattle.buffer.specs.Bytes.{Bytes}
use Rattle.chart_write.specs.Writing.{tidy}
use Rattle.chart_image.specs.Image.{chart_image_size, chart_in}
use Rattle.chart_read_door.specs.Calls.{pz_chart_read_refusal, pz_chart_read_place, pz_chart_read_image}
use Rattle.chart_write_door.specs.Calls.{pz_chart_write_refusal, pz_chart_write_count, pz_chart_write_chart}

-- writing undoes reading: the image that a chart's bytes were read into is written as these bytes, and what stood after them stays
pub record ChartImageWrittenBack (bytes b out : List ℕ) : Type 0 where
  pub refusal : pz_chart_write_refusal (pz_chart_read_image bytes b) (length out) ≡ 0
  pub written : pz_chart_write_count (pz_chart_read_image bytes b) (length out) ≡ length bytes
  pub chart : pz_chart_write_chart (pz_chart_read_image bytes b) out ≡ bytes ++ drop (length bytes) out

abbrev pub ChartImageWriteUndoesRead : Type 0
ChartImageWriteUndoesRead =
    (bytes b out : List ℕ) → Bytes bytes → pz_chart_read_refusal bytes (length b) ≡ 0 → length bytes ≤ length out → ChartImageWrittenBack bytes b out

-- the chart that was written of an image b: the bytes that `written` counts
abbrev pub pz_chart_written : List ℕ → List ℕ → List ℕ
pz_chart_written b out = take (pz_chart_write_count b (length out)) (pz_chart_write_chart b out)

-- reading undoes writing: it is read into any image c that is long enough, which then stands for the chart of b, with what a writer does not look at at zero
pub record ChartImageReadBack (b out c : List ℕ) : Type 0 where
  pub refusal : pz_chart_read_refusal (pz_chart_written b out) (length c) ≡ 0
  pub place : pz_chart_read_place (pz_chart_written b out) ≡ 0
  pub chart : chart_in (pz_chart_read_image (pz_chart_written b out) c) ≡ tidy (chart_in b)

abbrev pub ChartImageReadUndoesWrite : Type 0
ChartImageReadUndoesWrite = (b out c : List ℕ) → pz_chart_write_refusal b (length out) ≡ 0 → chart_image_size ≤ length c → ChartImageReadBack b out c
