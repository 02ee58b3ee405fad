-- What C gets of pz_chart_write (include/poztecameh.h).
use Rattle.std.specs.Prelude.{ℕ, List, ltb, length}
use Rattle.lists.specs.Refusals.{refuse, unless_refused}
use Rattle.buffer.specs.Writing.{lent_after}
use Rattle.chart_write.specs.Writing.{chart_bytes, chart_write_refusal}
use Rattle.chart_image.specs.Image.{chart_image_size, chart_in}

-- 10 for an image too short to be read, then the writer's number
unfoldable pub pz_chart_write_refusal : List ℕ → ℕ → ℕ
pz_chart_write_refusal b room = refuse 10 (ltb (length b) chart_image_size) (chart_write_refusal (chart_in b) room)

-- the bytes written, 0 beside a refusal
unfoldable pub pz_chart_write_count : List ℕ → ℕ → ℕ
pz_chart_write_count b room = unless_refused (pz_chart_write_refusal b room) (length (chart_bytes (chart_in b))) 0

-- the buffer after the call
unfoldable pub pz_chart_write_chart : List ℕ → List ℕ → List ℕ
pz_chart_write_chart b out = lent_after (pz_chart_write_refusal b (length out)) (chart_bytes (chart_in b)) out
