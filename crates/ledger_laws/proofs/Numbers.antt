-- Which numbers each call on a ledger gives.
use Prim.Native.Nat.{ℕ, ◌-◌}
use mathlib.Core.Path.{refl}
use mathlib.Core.Bool.{not, ◌||◌}
use mathlib.Core.List.{List, [], ◌∷◌}
use lib.Dec.{eqb, ltb}
use lib.ListN.{drop}
use Rattle.lists.specs.Places.{any_below}
use Rattle.lists.proofs.Given.{Given, tested, chosen, either, among-more}
use Rattle.buffer.specs.Bytes.{Bytes}
use Rattle.address.specs.declared.Port.{Port}
use Rattle.envelope.specs.Frame.{destinations_offset, fields_of, destination_at}
use Rattle.envelope.specs.Refusal.{stray_at, frame_refusal}
use Rattle.envelope_read.specs.Promises.{reader_refusals}
use Rattle.envelope_read.proofs.Promises.{reader-numbers}
use Rattle.table.specs.declared.Table.{Table}
use Rattle.table.specs.Table.{table_in_range}
use Rattle.ledger.specs.declared.Ledger.{Ledger}
use Rattle.ledger.specs.Rules.{obeys}
use Rattle.ledger_answer.specs.Answer.{answered_at, answer_refusal, answer_of}
use Rattle.ledger_tick.specs.Tick.{tick_refusal, tick_of}
use Rattle.ledger_clear.specs.Clear.{settled_at, clear_refusal, clear_of}
use Rattle.ledger_accept.specs.Accept.{is_open_from_at, legs_refusal, call_refusal, accept_refusal, accept_of}
use Rattle.ledger_laws.specs.Calls.{Call, accepting, answering, ticking, clearing, refusal_of}
use Rattle.ledger_laws.specs.Promises.{call_refusals, CallNumbers}

none : (c : Call) → Given (call_refusals c) 0
none (accepting f arrival t ticks) = record { is = refl }
none (answering by to seq reply) = record { is = refl }
none ticking = record { is = refl }
none (clearing place) = record { is = refl }

module _ (f : List ℕ) (arrival : Port) (t : Table) (ticks : ℕ) where
  abbrev K : List ℕ
  K = call_refusals (accepting f arrival t ticks)

  -- 50, 51, 60 to 63
  accept-given : (l : Ledger) → Bytes f → Given K (accept_refusal l f arrival t ticks)
  unfolding accept_refusal call_refusal legs_refusal
  accept-given l b =
      let e = fields_of f in
      either K (frame_refusal f) (record { is = among-more (frame_refusal f) reader_refusals (50 ∷ 51 ∷ 60 ∷ 61 ∷ 62 ∷ 63 ∷ []) (reader-numbers f b) })
      (tested K 50 (not (table_in_range t)) refl
      (tested K 51 (ltb 63 arrival.0 || any_below (stray_at (destination_at (drop destinations_offset f))) e.count) refl
      (tested K 60 (not (obeys l)) refl
      (chosen K e.ack
      (tested K 61 (eqb ticks 0) refl
      (tested K 62 (any_below (is_open_from_at l e.source e.seq) l.count) refl
      (tested K 63 (ltb (128 - l.count) e.count) refl
      (none (accepting f arrival t ticks)))))
      (none (accepting f arrival t ticks))))))

-- the numbers that each call gives
pub call-numbers : CallNumbers
unfolding refusal_of accept_of answer_of answer_refusal tick_of tick_refusal clear_of clear_refusal
call-numbers l (accepting f arrival t ticks) b = (accept-given f arrival t ticks l b).is
call-numbers l (answering by to seq reply) b =
    let c = answering by to seq reply in
    (tested (call_refusals c) 60 (not (obeys l)) refl
    (tested (call_refusals c) 64 (not (any_below (answered_at l by to seq) l.count)) refl
    (none c))).is
call-numbers l ticking b = (tested (call_refusals ticking) 60 (not (obeys l)) refl (none ticking)).is
call-numbers l (clearing place) b =
    let c = clearing place in
    (tested (call_refusals c) 60 (not (obeys l)) refl
    (tested (call_refusals c) 65 (not (settled_at l place)) refl
    (none c))).is
