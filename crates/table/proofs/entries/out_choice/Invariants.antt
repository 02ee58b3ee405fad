-- No entry before the one that is looked at qualifies.
use mathlib.Core.Path.{◌≡◌}
use mathlib.Core.Bool.{false}
use Rattle.lists.specs.Places.{any_below}
use Rattle.table.specs.Table.{qualifies_at}
use Rattle.table.proofs.entries.out_choice.Given as goal

abbrev pub invariant-loop-e : goal.invariant-loop-e
invariant-loop-e l = any_below (qualifies_at l.fn.t l.d l.arrival) l.e-index ≡ false
