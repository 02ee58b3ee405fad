-- The theorems of specs/Promises.antt: by where the entries stand, and by what a first link says.
use Prim.Native.Nat.{ℕ}
use mathlib.Core.Path.{◌≡◌, ap, ◌∙◌}
use mathlib.Core.Option.{Option}
use mathlib.Core.List.{List}
use Rattle.address.specs.declared.Station.{Station}
use Rattle.chart.specs.declared.Chart.{Chart}
use Rattle.chart.specs.Values.{node_at}
use Rattle.chart_net.specs.Net.{routes_between}
use Rattle.chart_net.proofs.Promises.{same-between}
use Rattle.route_fewest.specs.Fewest.{fewest_of, head_of}
use Rattle.table_write.specs.Writing.{first_link_to, entries_by, table_with, table_for}
use Rattle.table_write.specs.Promises.{EveryEntry, EveryPort, WrittenInRange, EveryTableChoice, SameStations, ByStations}
use Rattle.table_write.proofs.Entries.{entries-same}
use Rattle.table_write.proofs.Reaching.{entry-for, entries-say, leaves_by}
use Rattle.table_write.proofs.Choosing.{table-ranged, choices}

pub every-entry : EveryEntry
every-entry c s asked = entries-say c s asked

pub every-port : EveryPort
every-port c s asked k b e = let w = entry-for c s asked k b e in (w.0, leaves_by c s asked k b w.0 w.1)

pub written-in-range : WrittenInRange
written-in-range c s asked = table-ranged c s asked

pub every-table-choice : EveryTableChoice
every-table-choice c s asked d arrival call = choices c s asked d arrival call

-- ---- labels and the question are not looked at

first-same : (c d : Chart) → SameStations c d → (s : Station) (b : ℕ)
    → first_link_to c s (node_at c.nodes b).station ≡ first_link_to d s (node_at d.nodes b).station
unfolding first_link_to
first-same c d e s b =
    ap (λ (l : List (List ℕ)). head_of (fewest_of l))
    (same-between c d e.count e.stations e.links s (node_at c.nodes b).station ∙ ap (routes_between d s) (e.stations b))

pub by-stations : ByStations
unfolding table_for
by-stations c d e s =
    let first : Chart → ℕ → Option ℕ = λ x b. first_link_to x s (node_at x.nodes b).station in
    ap (table_with s)
    (entries-same (first c) (first d) c d e.stations e.links s c.nodes.count (λ b h. first-same c d e s b) ∙ ap (entries_by (first d) d s) e.count)
