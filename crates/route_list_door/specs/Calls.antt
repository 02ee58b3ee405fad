-- What C gets of pz_routes (include/poztecameh.h; document 02, Ten).
use Rattle.std.specs.Prelude.{ℕ, cond, List, length}
use Rattle.lists.specs.Refusals.{or_else}
use Rattle.chart_read.specs.Reading.{read_chart_of}
use Rattle.chart_net.specs.Net.{routes_of}
use Rattle.route_list.specs.Listing.{list_refusal, list_count, list_more, list_after}

-- the routes that a chart's bytes ask for
abbrev pub routes_asked : List ℕ → List (List ℕ)
routes_asked bytes = routes_of (read_chart_of bytes).chart

-- the chart's number first, then 42 for n bytes without room for a slot, then 43
unfoldable pub pz_routes_refusal : List ℕ → ℕ → ℕ
pz_routes_refusal bytes n = or_else (read_chart_of bytes).refusal (list_refusal (routes_asked bytes) n)

-- the place of the field that the chart's number refuses, else 0
unfoldable pub pz_routes_place : List ℕ → ℕ
pz_routes_place bytes = (read_chart_of bytes).place

-- how many routes are listed, and 1 where others follow, else 0
unfoldable pub pz_routes_count : List ℕ → ℕ → ℕ
pz_routes_count bytes n = list_count (pz_routes_refusal bytes n) (routes_asked bytes) n

unfoldable pub pz_routes_more : List ℕ → ℕ → ℕ
pz_routes_more bytes n = cond (list_more (pz_routes_refusal bytes n) (routes_asked bytes) n) 1 0

-- the slots after the call
unfoldable pub pz_routes_slots : List ℕ → List ℕ → List ℕ
pz_routes_slots bytes buf = list_after (pz_routes_refusal bytes (length buf)) (routes_asked bytes) buf
