-- What C gets of pz_chart_renew and pz_chart_restore (include/poztecameh.h).
use Rattle.std.specs.Prelude.{ℕ, List, length}
use Rattle.lists.specs.Refusals.{unless_refused}
use Rattle.buffer.specs.Writing.{lent_after}
use Rattle.chart.specs.Values.{plain, directed}
use Rattle.chart_read.specs.Reading.{read_chart_of}
use Rattle.chart_form.specs.Moving.{moved_bytes, move_refusal}

-- ---- pz_chart_renew

-- the chart's number, then 10 for a buffer of so much room that is too short
unfoldable pub pz_chart_renew_refusal : List ℕ → ℕ → ℕ
pz_chart_renew_refusal bytes room = move_refusal directed bytes room

-- the place of the field that the chart's number refuses, else 0
unfoldable pub pz_chart_renew_place : List ℕ → ℕ
pz_chart_renew_place bytes = (read_chart_of bytes).place

-- the bytes written, 0 beside a refusal
unfoldable pub pz_chart_renew_count : List ℕ → ℕ → ℕ
pz_chart_renew_count bytes room = unless_refused (pz_chart_renew_refusal bytes room) (length (moved_bytes directed bytes)) 0

-- the buffer after the call
unfoldable pub pz_chart_renew_chart : List ℕ → List ℕ → List ℕ
pz_chart_renew_chart bytes out = lent_after (pz_chart_renew_refusal bytes (length out)) (moved_bytes directed bytes) out

-- ---- pz_chart_restore

-- the chart's number, then 32 for a link that does not go both ways, then 10
unfoldable pub pz_chart_restore_refusal : List ℕ → ℕ → ℕ
pz_chart_restore_refusal bytes room = move_refusal plain bytes room

-- the others likewise
unfoldable pub pz_chart_restore_place : List ℕ → ℕ
pz_chart_restore_place bytes = (read_chart_of bytes).place

unfoldable pub pz_chart_restore_count : List ℕ → ℕ → ℕ
pz_chart_restore_count bytes room = unless_refused (pz_chart_restore_refusal bytes room) (length (moved_bytes plain bytes)) 0

unfoldable pub pz_chart_restore_chart : List ℕ → List ℕ → List ℕ
pz_chart_restore_chart bytes out = lent_after (pz_chart_restore_refusal bytes (length out)) (moved_bytes plain bytes) out
