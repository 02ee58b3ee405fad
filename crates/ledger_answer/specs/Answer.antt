-- Answer (document 01, "The ledger of legs").
use Rattle.std.specs.Prelude.{ℕ, Bool, false, not, ◌&&◌, cond, eqb, set}
use Rattle.lists.specs.Places.{any_below, first_below}
use Rattle.lists.specs.Refusals.{refuse, unless_refused}
use Rattle.address.specs.declared.Seq.{Seq}
use Rattle.address.specs.declared.Address.{Address}
use Rattle.ledger.specs.declared.Standing.{Standing}
use Rattle.ledger.specs.declared.Standing.TheVariants.{Acknowledged, Refused, Waiting}
use Rattle.ledger.specs.declared.Leg.{Leg}
use Rattle.ledger.specs.declared.Ledger.{Ledger}
use Rattle.ledger.specs.Rules.{with_standing, leg_at, is_open_leg, obeys}
use Rattle.ledger_answer.specs.declared.Reply.{Reply}
use Rattle.ledger_answer.specs.declared.Reply.TheVariants.{Ack, Nak}
use Rattle.ledger.specs.Outcome.{Outcome}

-- the standing that a reply gives
unfoldable pub standing_for : Reply → Standing
standing_for Ack = Acknowledged
standing_for (Nak reason code) = Refused reason code

-- the leg, settled by the reply: its ticks become 0
unfoldable pub settled : Reply → Leg → Leg
settled r g = with_standing g 0 (standing_for r)

-- the reason set "alerter" (appendix A, <reason_code_set>), and its code "wait_ack" (D.1)
abbrev pub alerter : ℕ
alerter = 2

abbrev pub wait_ack : ℕ
wait_ack = 13

-- the reply says wait: the call is being made (B.4.3.2, B.4.3.3)
unfoldable pub waits : Reply → Bool
waits Ack = false
waits (Nak reason code) = eqb reason alerter && eqb code wait_ack

-- the leg as the reply leaves it: marked as waiting, its ticks untouched; else settled
unfoldable pub answered : Reply → Leg → Leg
answered r g = cond (waits r) (with_standing g g.ticks Waiting) (settled r g)

-- the ledger with another leg at a place
unfoldable pub with_leg : Ledger → ℕ → Leg → Ledger
with_leg l k g = record { count = l.count; legs = set l.legs k g }

-- at a place stands an open leg from `to` to `by` with this number: `by` answers what `to` sent
unfoldable pub answered_at : Ledger → Address → Address → Seq → ℕ → Bool
answered_at l by to seq i = is_open_leg to by seq (leg_at l i)

-- where it stands (there is at most one)
unfoldable pub answered_place : Ledger → Address → Address → Seq → ℕ
answered_place l by to seq = first_below (answered_at l by to seq) l.count

-- 60 the rules, then 64 no such open leg
unfoldable pub answer_refusal : Ledger → Address → Address → Seq → ℕ
answer_refusal l by to seq = refuse 60 (not (obeys l)) (refuse 64 (not (any_below (answered_at l by to seq) l.count)) 0)

-- that leg is as the reply leaves it; beside a refusal the ledger is as it was
unfoldable pub answer_of : Ledger → Address → Address → Seq → Reply → Outcome
answer_of l by to seq reply =
    record {
      refusal = answer_refusal l by to seq;
      ledger =
          unless_refused (answer_refusal l by to seq)
          (with_leg l (answered_place l by to seq) (answered reply (leg_at l (answered_place l by to seq))))
          l;
    }
