-- The keys before i are there.
use Prim.Native.Nat.{ℕ, ◌<◌}
use mathlib.Core.Path.{◌≡◌}
use lib.ListN.{length, get_or}
use Rattle.chart.specs.Values.{node_at}
use Rattle.chart_refuse.specs.Private.{StationKeyed}
use Rattle.chart_refuse.proofs.keys.station_keys.Given as goal

abbrev pub invariant-loop-i : goal.invariant-loop-i
invariant-loop-i l =
    record {
      long : length l.keys ≡ 16;
      keyed : (j : ℕ) → j < l.i → StationKeyed (node_at l.fn.nodes j).station (get_or l.keys j 0);
    }
