-- The legs for the destinations before i are stored after those that count.
use mathlib.Core.Path.{◌≡◌}
use lib.Seq.{sets}
use Rattle.lists.specs.Places.{firsts}
use Rattle.envelope.specs.Frame.{destination_at}
use Rattle.ledger_accept.specs.Accept.{leg_for_at}
use Rattle.ledger_accept.proofs.adding.with_legs.Given as goal

abbrev pub invariant-loop-i : goal.invariant-loop-i
invariant-loop-i l = l.m.legs ≡ sets l.fn.l.legs l.fn.l.count (firsts (leg_for_at l.e (destination_at l.part) l.arrival l.table l.ticks) l.i)
