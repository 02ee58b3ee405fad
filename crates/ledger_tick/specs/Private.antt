-- What the loop over the legs gives.
use Rattle.std.specs.Prelude.{ℕ, List, map, ◌++◌, take, drop}
use Rattle.lists.specs.Lists.{how_many}
use Rattle.ledger.specs.declared.Leg.{Leg}
use Rattle.ledger_tick.specs.declared.TickedLegs.{TickedLegs}
use Rattle.ledger_tick.specs.Tick.{times_out, ticked_leg}

-- the first n legs ticked, those after them as they were, and how many timed out
abbrev pub ticked_first : List Leg → ℕ → TickedLegs
ticked_first gs n = record { legs = map ticked_leg (take n gs) ++ drop n gs; ended = how_many times_out (take n gs) }
