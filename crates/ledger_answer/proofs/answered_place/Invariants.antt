-- No leg from i on is the one. Where one is, no leg before it is.
use Prim.Native.Nat.{ℕ, ◌<◌, ◌≤◌}
use mathlib.Core.Path.{◌≡◌}
use mathlib.Core.Bool.{false}
use Rattle.ledger_answer.specs.Answer.{answered_at}
use Rattle.ledger_answer.proofs.answered_place.Given as goal

abbrev pub invariant-loop-i : goal.invariant-loop-i
invariant-loop-i l = (j : ℕ) → l.i ≤ j → j < l.l.count → answered_at l.l l.by l.to l.seq j ≡ false
