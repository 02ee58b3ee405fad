-- `chart_read::read_chart` meets its contract. The loop's invariant: the walk from here is the whole reading, and the keys are those of what is held.
use Prim.Native.Nat.{◌-◌}
use lib.ListN.{length}
use Rattle.chart_read.proofs.Holding.{Holding}
use Rattle.chart_read.proofs.read_chart.Given as goal

abbrev pub invariant-loop-at : goal.invariant-loop-at
invariant-loop-at l =
    Holding l.bytes (record { nodes = l.nodes; links = l.links; from = l.from; to = l.to; keys = l.keys; at = l.at })

abbrev pub decreases-loop-at : goal.decreases-loop-at
decreases-loop-at l =
    length l.bytes - l.at
