-- The legs before the one that is looked at are right, and their keys are in the row.
use mathlib.Core.Path.{◌≡◌}
use mathlib.Core.Bool.{false}
use Rattle.lists.specs.Places.{any_below, row}
use Rattle.ledger.specs.Rules.{broken_at}
use Rattle.ledger.specs.Private.{leg_key_at}
use Rattle.ledger.proofs.rules.obeys.Given as goal

abbrev pub invariant-loop-i : goal.invariant-loop-i
invariant-loop-i l =
    (any_below (broken_at l.fn.l) l.i ≡ false) × (l.keys ≡ row 128 0 (leg_key_at l.fn.l) l.i)
