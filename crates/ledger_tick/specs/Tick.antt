-- Tick (document 01, "The ledger of legs").
use Rattle.std.specs.Prelude.{ℕ, ◌-◌, Bool, cond, not, ◌&&◌, map, ◌++◌, leb, take, drop, Result, Ok, Err}
use Rattle.lists.specs.Lists.{how_many}
use Rattle.lists.specs.Refusals.{refuse, unless_refused}
use Rattle.refusal.specs.declared.Refusal.{Refusal}
use Rattle.refusal.specs.Numbers.{number}
use Rattle.ledger.specs.declared.Standing.TheVariants.{TimedOut}
use Rattle.ledger.specs.declared.Leg.{Leg}
use Rattle.ledger.specs.declared.Ledger.{Ledger}
use Rattle.ledger.specs.Rules.{with_standing, is_open, obeys}
use Rattle.ledger_tick.specs.declared.Ticked as code

-- an open leg whose count comes to 0 in this tick
unfoldable pub times_out : Leg → Bool
times_out g = is_open g.standing && leb g.ticks 1

-- one tick less for an open leg; at 0 it is timed out
unfoldable pub ticked_leg : Leg → Leg
ticked_leg g =
    cond (is_open g.standing)
    (cond (leb g.ticks 1) (with_standing g 0 TimedOut) (with_standing g (g.ticks - 1) g.standing))
    g

-- each leg of the ledger ticked, and the places past them as they were
unfoldable pub ticked_ledger : Ledger → Ledger
ticked_ledger l = record { count = l.count; legs = map ticked_leg (take l.count l.legs) ++ drop l.count l.legs }

-- what tick comes to: the number, the ledger after it, and how many legs timed out in this tick
pub record Ticked : Type 0 where
  pub ledger : Ledger
  pub refusal : ℕ
  pub ended : ℕ

-- what the result of a tick of the ledger l comes to: beside a refusal the ledger is as it was, and none timed out
abbrev pub tick_answer : Ledger → Result code.Ticked Refusal → Ticked
tick_answer l (Ok t) = record { ledger = t.ledger; refusal = 0; ended = t.ended }
tick_answer l (Err r) = record { ledger = l; refusal = number r; ended = 0 }

-- 60 the rules
unfoldable pub tick_refusal : Ledger → ℕ
tick_refusal l = refuse 60 (not (obeys l)) 0

-- every leg is ticked, and how many timed out; beside a refusal 0, and the ledger as it was
unfoldable pub tick_of : Ledger → Ticked
tick_of l =
    record {
      refusal = tick_refusal l;
      ended = unless_refused (tick_refusal l) (how_many times_out (take l.count l.legs)) 0;
      ledger = unless_refused (tick_refusal l) (ticked_ledger l) l;
    }
