-- `ledger_answer::answered_place` meets its contract: the legs are looked at from the newest end.
use Prim.Native.Nat.{◌-◌}
use mathlib.Core.Path.{sym, ◌∙◌}
use Rattle.lists.specs.Places.{element_at}
use Rattle.ledger.specs.Rules.{leg_at}
use Rattle.ledger.proofs.Laws.{obedient}
use Rattle.ledger_answer.specs.Answer.{answered_at}
use Rattle.ledger_answer.proofs.Laws.{newest-found, none_found, none-later}
use native.Mathlib.Omega.{arith}
use Rattle.ledger_answer.proofs.answered_place.Goals as goal

pub bounds-l-i : goal.bounds-l-i
bounds-l-i c = omega (arith, (obedient c.args.l c.requires).few)

pub returns-then-is_open_leg : goal.returns-then-is_open_leg
unfolding answered_at leg_at element_at
returns-then-is_open_leg c =
    newest-found c.args.l c.args.by c.args.to c.args.seq c.requires (c.loop-i.i - 1) (omega arith) (sym c.is_open_leg.ensures ∙ c.if-is_open_leg.true)

pub loop-i-preserved : goal.loop-i-preserved
unfolding answered_at leg_at element_at
loop-i-preserved c =
    none-later (answered_at c.args.l c.args.by c.args.to c.args.seq) (omega arith) (sym c.is_open_leg.ensures ∙ c.if-is_open_leg.false) c.loop-i.invariant

pub returns : goal.returns
returns c = none_found c.args.l c.args.by c.args.to c.args.seq c.requires (λ j h. c.loop-i.invariant j (omega arith))
