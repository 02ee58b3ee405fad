-- What C gets of pz_pass (include/poztecameh.h).
use Rattle.std.specs.Prelude.{ℕ, List, ltb, length}
use Rattle.lists.specs.Refusals.{refuse, or_else, unless_refused}
use Rattle.address.specs.declared.Station.{Station}
use Rattle.address.specs.declared.Address.{Address}
use Rattle.buffer.specs.Writing.{lent_after}
use Rattle.chart_read.specs.Reading.{read_chart_of}
use Rattle.chart_net.specs.Net.{station_place}
use Rattle.class.specs.Class.{ending_from}
use Rattle.class.specs.Calls.{chart_of, tables_in, longest_way, send_refusal, way_of}

-- the place of the field that the chart's number refuses, else 0
unfoldable pub pz_pass_place : List ℕ → ℕ
pz_pass_place bytes = (read_chart_of bytes).place

module _ (bytes tables : List ℕ) (d : Address) (s : Station) where
  -- the class's number, then 10 for a way of so much room that is too short
  unfoldable pub pz_pass_refusal : ℕ → ℕ
  pz_pass_refusal room = or_else (send_refusal bytes tables d s) (refuse 10 (ltb room longest_way) 0)

  -- how many nodes the way has, and how it ended; 0 beside a refusal
  unfoldable pub pz_pass_places : ℕ → ℕ
  pz_pass_places room = unless_refused (pz_pass_refusal room) (length (way_of bytes tables d s)) 0

  unfoldable pub pz_pass_ending : ℕ → ℕ
  pz_pass_ending room = unless_refused (pz_pass_refusal room) (ending_from (chart_of bytes) (tables_in tables) d (station_place (chart_of bytes).nodes s)) 0

  -- the lent way after the call
  unfoldable pub pz_pass_way : List ℕ → List ℕ
  pz_pass_way way = lent_after (pz_pass_refusal (length way)) (way_of bytes tables d s) way
