-- `chart_mend::sort` meets its contract. The loop's invariant: the fields behind it are stored, those before it are still to come, and the keys are those of
-- what is held.
use Prim.Native.Nat.{◌-◌}
use lib.ListN.{length}
use Rattle.chart_mend.proofs.Sorting.{Sorting}
use Rattle.chart_mend.proofs.sort.Given as goal

abbrev pub invariant-loop-at : goal.invariant-loop-at
invariant-loop-at l =
    Sorting l.input l.initial.out l.initial.list (record { out = l.out; list = l.list; keys = l.keys; kept = l.kept; listed = l.listed; at = l.at })

abbrev pub decreases-loop-at : goal.decreases-loop-at
decreases-loop-at l =
    length l.input - l.at
