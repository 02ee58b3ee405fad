-- What C gets of pz_chart_read (include/poztecameh.h).
use Rattle.std.specs.Prelude.{ℕ, List, ltb, length}
use Rattle.lists.specs.Refusals.{refuse, or_else}
use Rattle.buffer.specs.Writing.{lent_after}
use Rattle.chart_read.specs.Reading.{read_chart_of}
use Rattle.chart_image.specs.Image.{chart_image_size, chart_image}

-- the chart's number first, then 10 for an image of m bytes that is too short
unfoldable pub pz_chart_read_refusal : List ℕ → ℕ → ℕ
pz_chart_read_refusal bytes m = or_else (read_chart_of bytes).refusal (refuse 10 (ltb m chart_image_size) 0)

-- the place of the field that the chart's number refuses, else 0
unfoldable pub pz_chart_read_place : List ℕ → ℕ
pz_chart_read_place bytes = (read_chart_of bytes).place

-- the image after the call
unfoldable pub pz_chart_read_image : List ℕ → List ℕ → List ℕ
pz_chart_read_image bytes b = lent_after (pz_chart_read_refusal bytes (length b)) (chart_image (read_chart_of bytes).chart) b
