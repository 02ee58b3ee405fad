-- The legs before i stand without the one at the place.
use Prim.Native.Nat.{◌-◌}
use Rattle.ledger_clear.proofs.Turns.{CloseTurn}
use Rattle.ledger_clear.proofs.close_up.Given as goal

abbrev pub invariant-loop-i : goal.invariant-loop-i
invariant-loop-i l = CloseTurn l.fn.place (l.fn.l.count - 1) l.initial.m l.m l.i
