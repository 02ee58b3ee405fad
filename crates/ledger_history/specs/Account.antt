-- The tutor's account (document 02, Thirteen), kept from the log alone: a line for each accepted leg, in order of acceptance. The ledger is never looked at.
use Rattle.std.specs.Prelude.{ℕ, zero, suc, ◌-◌, Bool, true, false, not, cond, ◌&&◌, List, [], ◌∷◌, ◌++◌, map, eqb, ltb, leb, length, take, drop}
use Rattle.lists.specs.Places.{element_at, firsts}
use Rattle.address.specs.declared.Seq.{Seq}
use Rattle.address.specs.declared.Address.{Address}
use Rattle.address.specs.Address.{same_address}
use Rattle.envelope.specs.Frame.{destinations_offset, fields_of, destination_at}
use Rattle.ledger.specs.declared.Standing.{Standing}
use Rattle.ledger.specs.declared.Standing.TheVariants.{TimedOut, Waiting}
use Rattle.ledger.specs.declared.Leg.{Leg}
use Rattle.ledger.specs.Rules.{no_leg, with_standing, is_open}
use Rattle.ledger_answer.specs.declared.Reply.{Reply}
use Rattle.ledger_answer.specs.Answer.{standing_for, waits}
use Rattle.ledger_accept.specs.Accept.{leg_for_at}
use Rattle.ledger_laws.specs.Calls.{Call, accepting, answering, ticking, clearing}
use Rattle.ledger_history.specs.Log.{Made}

-- ---- what is written

-- what can reach a leg
pub data Event : Type 0 where
  replied : Reply → Event
  ticked : Event

-- a line: the leg as it was accepted, what has reached it since, in order, and whether it is struck out, which is to say cleared
pub record Line : Type 0 where
  pub leg : Leg
  pub events : List Event
  pub struck : Bool

unfoldable pub new_line : Leg → Line
new_line g = record { leg = g; events = []; struck = false }

-- what reaches a leg is written on its line; on one that is struck out nothing is written any more
unfoldable pub noted : Event → Line → Line
noted e x = cond x.struck x (record { leg = x.leg; events = x.events ++ (e ∷ []); struck = false })

-- an answer is for a leg if it comes from the leg's destination, goes to its source and has its number
unfoldable pub is_for : Address → Address → Seq → Leg → Bool
is_for by to seq g = same_address g.source to && same_address g.destination by && eqb g.seq.0 seq.0

unfoldable pub noted_if_for : Address → Address → Seq → Reply → Line → Line
noted_if_for by to seq reply x = cond (is_for by to seq x.leg) (noted (replied reply) x) x

unfoldable pub struck_out : Line → Line
struck_out x = record { leg = x.leg; events = x.events; struck = true }

-- the line at a place is struck out; those struck out before are not counted
unfoldable pub strike : ℕ → List Line → List Line
strike k [] = []
strike zero (x ∷ xs) = cond x.struck (x ∷ strike zero xs) (struck_out x ∷ xs)
strike (suc k) (x ∷ xs) = cond x.struck (x ∷ strike (suc k) xs) (x ∷ strike k xs)

-- what is written for a call that gave back this number and this count: as many new lines as legs were added; an answer on the lines that it is for, a tick on all
-- of them; a clear that was not refused strikes one out
unfoldable pub written : Call → ℕ → ℕ → List Line → List Line
written (accepting f arrival t ticks) refusal count s =
    s ++ map new_line (firsts (leg_for_at (fields_of f) (destination_at (drop destinations_offset f)) arrival t ticks) count)
written (answering by to seq reply) refusal count s = map (noted_if_for by to seq reply) s
written ticking refusal count s = map (noted ticked) s
written (clearing place) refusal count s = cond (eqb refusal 0) (strike place s) s

unfoldable pub account_from : List Line → List Made → List Line
account_from s [] = s
account_from s (m ∷ ms) = account_from (written m.call m.refusal m.count s) ms

unfoldable pub account : List Made → List Line
account ms = account_from [] ms

-- the lines that are not struck out
unfoldable pub unstruck : List Line → List Line
unstruck [] = []
unstruck (x ∷ xs) = cond x.struck (unstruck xs) (x ∷ unstruck xs)

-- ---- how a line is read

-- an open leg after what has reached it: a NAK that says wait settles nothing; the first other answer settles it, or the tick that ends it, whichever comes first,
-- and nothing after that counts
unfoldable pub open_after : Leg → List Event → Leg
open_after g [] = g
open_after g (replied reply ∷ es) = cond (waits reply) (open_after (with_standing g g.ticks Waiting) es) (with_standing g 0 (standing_for reply))
open_after g (ticked ∷ es) = cond (leb g.ticks 1) (with_standing g 0 TimedOut) (open_after (with_standing g (g.ticks - 1) g.standing) es)

-- a leg that was not accepted open, but undeliverable, stays as it is
unfoldable pub leg_after : Leg → List Event → Leg
leg_after g es = cond (is_open g.standing) (open_after g es) g

-- the leg as its line reads
unfoldable pub as_read : Line → Leg
as_read x = leg_after x.leg x.events

-- ---- what becomes of a leg from call to call

-- how the leg accepted at place n stands after the first i calls of a log; before it is accepted, as a place with no leg
unfoldable pub standing_then : List Made → ℕ → ℕ → Standing
standing_then ms n i = (as_read (element_at (new_line no_leg) (account (take i ms)) n)).standing

-- it is accepted by then, and open
unfoldable pub open_then : List Made → ℕ → ℕ → Bool
open_then ms n i = ltb n (length (account (take i ms))) && is_open (standing_then ms n i)

-- it leaves the open standing with the next call
unfoldable pub leaves_then : List Made → ℕ → ℕ → Bool
leaves_then ms n i = open_then ms n i && not (open_then ms n (suc i))
