-- Accept (document 01, "The ledger of legs"; document 02, Seven): a frame, an arrival port, a table and a number of ticks.
use Rattle.std.specs.Prelude.{ℕ, ◌+◌, ◌-◌, Bool, not, ◌&&◌, ◌||◌, cond, List, eqb, ltb, drop, Result, Ok, Err}
use Rattle.std.proofs.lemmas.List.Edits.{sets}
use Rattle.lists.specs.Places.{any_below, firsts}
use Rattle.lists.specs.Refusals.{refuse, or_else, unless_refused}
use Rattle.refusal.specs.declared.Fault.{Fault}
use Rattle.refusal.specs.Numbers.{number}
use Rattle.address.specs.declared.Port.{Port}
use Rattle.address.specs.declared.Seq.{Seq}
use Rattle.address.specs.declared.Address.{Address}
use Rattle.address.specs.Address.{largest_port, same_address}
use Rattle.envelope.specs.declared.Fixed.{Fixed}
use Rattle.envelope.specs.Frame.{destinations_offset, fields_of, destination_at}
use Rattle.envelope.specs.Refusal.{stray_at, frame_refusal}
use Rattle.envelope.specs.Place.{frame_place}
use Rattle.table.specs.Choice.{Choice}
use Rattle.table.specs.declared.Table.{Table}
use Rattle.table.specs.Table.{table_in_range, choose_of, choice_refusal}
use Rattle.ledger.specs.declared.Standing.TheVariants.{Open, Undeliverable}
use Rattle.ledger.specs.declared.Leg.{Leg}
use Rattle.ledger.specs.declared.Ledger.{Ledger}
use Rattle.ledger.specs.Rules.{most_legs, leg_at, is_open, obeys}
use Rattle.ledger_accept.specs.declared.Added as code

-- what accept comes to: the number, how many legs were added, the place of a refused frame, and the ledger after the call
pub record Added : Type 0 where
  pub ledger : Ledger
  pub refusal : ℕ
  pub added : ℕ
  pub place : ℕ

-- what the result of accept on the ledger l comes to: beside a refusal no leg is added, and the ledger is as it was
abbrev pub accept_answer : Ledger → Result code.Added Fault → Added
accept_answer l (Ok a) = record { ledger = a.ledger; refusal = 0; added = a.added; place = 0 }
accept_answer l (Err f) = record { ledger = l; refusal = number f.refusal; added = 0; place = f.place }

-- an open leg with this source and sequence number, to any destination (3.3.4)
unfoldable pub is_open_from : Address → Seq → Leg → Bool
is_open_from source seq g = is_open g.standing && same_address g.source source && eqb g.seq.0 seq.0

unfoldable pub is_open_from_at : Ledger → Address → Seq → ℕ → Bool
is_open_from_at l source seq i = is_open_from source seq (leg_at l i)

-- 61 to 63, of a message that asks for an acknowledgement
unfoldable pub legs_refusal : Ledger → Fixed → ℕ → ℕ
legs_refusal l e ticks =
    refuse 61 (eqb ticks 0)
    (refuse 62 (any_below (is_open_from_at l e.source e.seq) l.count)
    (refuse 63 (ltb (most_legs - l.count) e.count)
    0))

-- 50, 51, 60 and then 61 to 63, of the fields of an accepted frame; stray, a destination is out of range
unfoldable pub call_refusal : Ledger → Fixed → Bool → Port → Table → ℕ → ℕ
call_refusal l e stray arrival t ticks =
    refuse 50 (not (table_in_range t))
    (refuse 51 (ltb largest_port arrival.0 || stray)
    (refuse 60 (not (obeys l))
    (cond e.ack (legs_refusal l e ticks) 0)))

-- 1 to 9 of the frame, then those
unfoldable pub accept_refusal : Ledger → List ℕ → Port → Table → ℕ → ℕ
accept_refusal l f arrival t ticks =
    or_else (frame_refusal f)
    (call_refusal l (fields_of f) (any_below (stray_at (destination_at (drop destinations_offset f))) (fields_of f).count) arrival t ticks)

-- the choice is that there is no route
abbrev pub is_unrouted : Choice → Bool
is_unrouted c = eqb (choice_refusal c) 52

-- the leg for a destination: undeliverable with no ticks where it has no route, else open with those ticks. Table, destination and port
-- were found in range before, so a choice of 50 or 51 can't come
unfoldable pub leg_for : Fixed → Port → Table → ℕ → Address → Leg
leg_for e arrival t ticks d =
    cond (is_unrouted (choose_of t d arrival))
    (record { source = e.source; destination = d; seq = e.seq; ticks = 0; standing = Undeliverable })
    (record { source = e.source; destination = d; seq = e.seq; ticks = ticks; standing = Open })

-- the leg for the destination at a place
unfoldable pub leg_for_at : Fixed → (ℕ → Address) → Port → Table → ℕ → ℕ → Leg
leg_for_at e d arrival t ticks i = leg_for e arrival t ticks (d i)

-- the legs for the destinations d, after those that count
unfoldable pub with_legs : Ledger → Fixed → (ℕ → Address) → Port → Table → ℕ → Ledger
with_legs l e d arrival t ticks =
    record { count = l.count + e.count; legs = sets l.legs l.count (firsts (leg_for_at e d arrival t ticks) e.count) }

-- the legs are added, all of them, if the message asks for an acknowledgement; beside a refusal none, and the ledger is as it was. The place is the frame's,
-- beside every later number 0
unfoldable pub accept_of : Ledger → List ℕ → Port → Table → ℕ → Added
accept_of l f arrival t ticks =
    record {
      refusal = accept_refusal l f arrival t ticks;
      added = unless_refused (accept_refusal l f arrival t ticks) (cond (fields_of f).ack (fields_of f).count 0) 0;
      place = frame_place f;
      ledger =
          unless_refused (accept_refusal l f arrival t ticks)
          (cond (fields_of f).ack (with_legs l (fields_of f) (destination_at (drop destinations_offset f)) arrival t ticks) l)
          l;
    }
