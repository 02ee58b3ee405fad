-- No leg before the one that is looked at is such a one.
use mathlib.Core.Path.{◌≡◌}
use mathlib.Core.Bool.{false}
use Rattle.lists.specs.Places.{any_below}
use Rattle.ledger_accept.specs.Accept.{is_open_from_at}
use Rattle.ledger_accept.proofs.refusing.any_open_from.Given as goal

abbrev pub invariant-loop-g : goal.invariant-loop-g
invariant-loop-g l = any_below (is_open_from_at l.fn.l l.source l.seq) l.g-index ≡ false
