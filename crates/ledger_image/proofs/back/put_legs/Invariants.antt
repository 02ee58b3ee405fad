-- The legs before the one that is looked at are stored.
use mathlib.Core.Path.{◌≡◌}
use lib.Seq.{sets}
use Rattle.lists.specs.Places.{joined}
use Rattle.ledger.specs.Rules.{leg_at}
use Rattle.ledger_image.specs.Leg.{leg_bytes}
use Rattle.ledger_image.proofs.back.put_legs.Given as goal

abbrev pub invariant-loop-i : goal.invariant-loop-i
invariant-loop-i l = l.b ≡ sets l.initial.b 1 (joined leg_bytes (leg_at l.fn.l) l.i)
