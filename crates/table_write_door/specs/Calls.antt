-- What C gets of pz_table (include/poztecameh.h).
use Rattle.std.specs.Prelude.{ℕ, not, List, ltb, length}
use Rattle.lists.specs.Refusals.{refuse, or_else}
use Rattle.address.specs.declared.Station.{Station}
use Rattle.buffer.specs.Writing.{lent_after}
use Rattle.chart.specs.Values.{has_node}
use Rattle.chart_read.specs.Reading.{read_chart_of}
use Rattle.table_image.specs.Table.{table_size, table_image}
use Rattle.table_write.specs.Writing.{table_for}

-- the station with these numbers
abbrev pub station : ℕ → ℕ → Station
station brigade node = record { brigade = brigade; node = record { 0 = node } }

-- the chart's number, then 44 for a station that it does not have, then 10 for an image of so much room that is too short
unfoldable pub pz_table_refusal : List ℕ → Station → ℕ → ℕ
pz_table_refusal bytes s room =
    or_else (read_chart_of bytes).refusal (refuse 44 (not (has_node (read_chart_of bytes).chart.nodes s)) (refuse 10 (ltb room table_size) 0))

-- the place of the field that the chart's number refuses, else 0
unfoldable pub pz_table_place : List ℕ → ℕ
pz_table_place bytes = (read_chart_of bytes).place

-- the image after the call
unfoldable pub pz_table_image : List ℕ → Station → List ℕ → List ℕ
pz_table_image bytes s image = lent_after (pz_table_refusal bytes s (length image)) (table_image (table_for (read_chart_of bytes).chart s)) image
