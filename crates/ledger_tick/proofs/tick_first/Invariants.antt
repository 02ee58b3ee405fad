-- The legs before the one that is looked at are ticked, and `ended` is how many of them timed out.
use mathlib.Core.Path.{◌≡◌}
use lib.ListN.{take}
use Rattle.lists.specs.Lists.{how_many}
use Rattle.ledger_tick.specs.Tick.{times_out, ticked_leg}
use Rattle.ledger_tick.proofs.Turns.{turned}
use Rattle.ledger_tick.proofs.tick_first.Given as goal

abbrev pub invariant-loop-leg : goal.invariant-loop-leg
invariant-loop-leg l =
    (l.leg-items ≡ turned ticked_leg (take l.n l.fn.legs) l.leg-index) × (l.ended ≡ how_many times_out (take l.leg-index (take l.n l.fn.legs)))
