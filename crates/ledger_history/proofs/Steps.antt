-- A call changes the legs that the ledger lists as what is written for it changes the account: the two stay in step.
use Prim.Native.Nat.{ℕ, zero, suc, ◌+◌, ◌<◌}
use mathlib.Core.Path.{◌≡◌, refl, sym, ap, subst, ◌∙◌}
use mathlib.Core.Bool.{Bool, true, false, not, cond}
use mathlib.Core.List.{List, ◌++◌, map, map-append, append-nil}
use native.Mathlib.Omega.{arith}
use lib.Dec.{eqb, ltb}
use lib.ListN.{length, get_or, drop, length-append, length-map}
use borrow.Author.Tests.{not-true, not-false, ne_eqb}
use Rattle.lists.specs.Places.{firsts}
use Rattle.lists.specs.Lists.{without}
use Rattle.lists.proofs.Bools.{and_right}
use Rattle.lists.proofs.Places.{length-firsts}
use Rattle.lists.proofs.Refusals.{pass, taken, refused}
use Rattle.address.specs.declared.Port.{Port}
use Rattle.address.specs.declared.Seq.{Seq}
use Rattle.address.specs.declared.Address.{Address}
use Rattle.envelope.specs.Frame.{destinations_offset, fields_of, destination_at}
use Rattle.table.specs.declared.Table.{Table}
use Rattle.ledger.specs.declared.Leg.{Leg}
use Rattle.ledger.specs.declared.Ledger.{Ledger}
use Rattle.ledger.specs.Rules.{no_leg, leg_at, is_open, obeys}
use Rattle.ledger_answer.specs.declared.Reply.{Reply}
use Rattle.ledger_answer.specs.Answer.{answer_of}
use Rattle.ledger_tick.specs.Tick.{ticked_leg, tick_of}
use Rattle.ledger_clear.specs.Clear.{settled_at, clear_refusal, clear_of}
use Rattle.ledger_accept.specs.Accept.{leg_for_at, accept_refusal, accept_of}
use Rattle.ledger_laws.specs.Calls.{Call, accepting, answering, ticking, clearing, refusal_of, returned_count, after}
use Rattle.ledger_laws.proofs.Places.{clear_within, accept-quiet-after, accept-refusal}
use Rattle.ledger_laws.proofs.Keeps.{clear-count, accept-count}
use Rattle.ledger_history.specs.Log.{accepted_by, cleared_by}
use Rattle.ledger_history.specs.Account.{ticked, Line, new_line, noted, noted_if_for, strike, written, unstruck, as_read}
use Rattle.ledger_history.specs.Promises.{listed_legs}
use Rattle.ledger_history.proofs.Reading.{answered_if}
use Rattle.ledger_history.proofs.Lines.{Writes, tick-writes, answer-writes, unstruck-map, unstruck-append, unstruck-new}
use Rattle.ledger_history.proofs.Struck.{NoneOpen, none_written, none-added}
use Rattle.ledger_history.proofs.Striking.{strike-length, strike-reads, none-struck}
use Rattle.ledger_history.proofs.Legs.{Good, listed-count, listed_at, answer-count, answer-legs, tick-count, tick-legs, clear-legs, accept-legs}

-- the ledger lists what the account shows
abbrev pub Shows : Ledger → List Line → Type 0
Shows l s = listed_legs l ≡ map as_read (unstruck s)

-- a call on the ledger l that gave back this number, this count and the ledger m
pub record Step (l : Ledger) (c : Call) (refusal count : ℕ) (m : Ledger) : Type 0 where
  pub shows : (s : List Line) → Shows l s → Shows m (written c refusal count s)
  pub none_open : (s : List Line) → Shows l s → NoneOpen s → NoneOpen (written c refusal count s)
  pub lines : (s : List Line) → length (written c refusal count s) ≡ length s + accepted_by c count
  pub tally : m.count + cleared_by c refusal ≡ l.count + accepted_by c count

-- ---- answer and tick: written on the lines

-- the same done to every leg
map-shows : (f : Line → Line) (g : Leg → Leg) → Writes f g → (l m : Ledger) → listed_legs m ≡ map g (listed_legs l) → (s : List Line) → Shows l s → Shows m (map f s)
map-shows f g w l m e s h = e ∙ ap (map g) h ∙ sym (unstruck-map f g w s)

answer-step : (l : Ledger) (by to : Address) (seq : Seq) (reply : Reply) → Good l → (refusal : ℕ)
    → Step l (answering by to seq reply) refusal 0 (answer_of l by to seq reply).ledger
unfolding written cleared_by accepted_by
answer-step l by to seq reply k refusal =
    let f = noted_if_for by to seq reply in
    let g = answered_if by to seq reply in
    let w = answer-writes by to seq reply in
    record {
      shows = map-shows f g w l (answer_of l by to seq reply).ledger (answer-legs l by to seq reply k);
      none_open = λ s h. none_written f g w s;
      lines = λ s. length-map s f ∙ omega arith;
      tally = ap (λ (n : ℕ). n + 0) (answer-count l by to seq reply k);
    }

tick-step : (l : Ledger) → Good l → (refusal count : ℕ) → Step l ticking refusal count (tick_of l).ledger
unfolding written cleared_by accepted_by
tick-step l k refusal count =
    record {
      shows = map-shows (noted ticked) ticked_leg tick-writes l (tick_of l).ledger (tick-legs l k);
      none_open = λ s h. none_written (noted ticked) ticked_leg tick-writes s;
      lines = λ s. length-map s (noted ticked) ∙ omega arith;
      tally = ap (λ (n : ℕ). n + 0) (tick-count l k);
    }

-- ---- clear: a line struck out

module _ (l : Ledger) (place : ℕ) (k : Good l) where
  settled-there : clear_refusal l place ≡ 0 → is_open (leg_at l place).standing ≡ false
  unfolding clear_refusal settled_at
  settled-there z = not-true _ (and_right (ltb place l.count) _ (not-false _ (pass 64 (not (settled_at l place)) 0 (pass 59 (not (obeys l)) _ z).1).0))

  strike-closed : clear_refusal l place ≡ 0 → (s : List Line) → Shows l s → NoneOpen s → NoneOpen (strike place s)
  strike-closed z s h =
      let lt = clear_within l place k.whole z in
      none-struck place s
      (subst (λ (n : ℕ). place < n) (sym (listed-count l k) ∙ ap length h ∙ length-map (unstruck s) as_read) lt)
      (ap (λ (x : List Leg). is_open (get_or x place no_leg).standing) (sym h) ∙ ap (λ (g : Leg). is_open g.standing) (listed_at l place lt) ∙ settled-there z)

  strike-shows : clear_refusal l place ≡ 0 → (s : List Line) → Shows l s → Shows (clear_of l place).ledger (strike place s)
  strike-shows z s h = clear-legs l place k z ∙ ap (without place) h ∙ sym (strike-reads place s)

  not-cleared : (refusal : ℕ) → eqb refusal 0 ≡ false → Step l (clearing place) refusal 0 l
  unfolding written cleared_by accepted_by
  not-cleared refusal e =
      record {
        shows = λ s h. h ∙ sym (ap (λ (b : Bool). map as_read (unstruck (cond b (strike place s) s))) e);
        none_open = λ s h d. subst NoneOpen (sym (ap (λ (b : Bool). cond b (strike place s) s) e)) d;
        lines = λ s. ap (λ (b : Bool). length (cond b (strike place s) s)) e ∙ omega arith;
        tally = rw e;
      }

  clear_step : (refusal : ℕ) → clear_refusal l place ≡ refusal → Step l (clearing place) refusal 0 (clear_of l place).ledger
  unfolding written cleared_by accepted_by clear_of
  clear_step zero z =
      let c : suc (clear_of l place).ledger.count ≡ l.count = clear-count l place k.whole z in
      record { shows = strike-shows z; none_open = strike-closed z; lines = λ s. strike-length place s ∙ omega arith; tally = omega arith }
  clear_step (suc n) z =
      subst (λ (m : Ledger). Step l (clearing place) (suc n) 0 m) (sym (refused _ l _ (λ y. omega arith))) (not-cleared (suc n) (ne_eqb (suc n) 0 (omega arith)))

-- ---- accept: lines added

module _ (l : Ledger) (f : List ℕ) (arrival : Port) (t : Table) (ticks : ℕ) (k : Good l) where
  abbrev c : Call
  c = accepting f arrival t ticks

  abbrev m : Ledger
  m = (accept_of l f arrival t ticks).ledger

  abbrev new : ℕ → List Leg
  new n = firsts (leg_for_at (fields_of f) (destination_at (drop destinations_offset f)) arrival t ticks) n

  lines-added : (n : ℕ) (s : List Line) → length (s ++ map new_line (new n)) ≡ length s + n
  lines-added n s =
      length-append s (map new_line (new n))
      ∙ ap (λ (i : ℕ). length s + i) (length-map (new n) new_line ∙ length-firsts (leg_for_at (fields_of f) (destination_at (drop destinations_offset f)) arrival t ticks) n)

  shows-added : (s : List Line) (gs : List Leg) → Shows l s → listed_legs m ≡ listed_legs l ++ gs → Shows m (s ++ map new_line gs)
  shows-added s gs h e =
      e
      ∙ ap (λ (x : List Leg). x ++ gs) h
      ∙ ap (λ (x : List Leg). map as_read (unstruck s) ++ x) (sym (unstruck-new gs))
      ∙ sym (ap (map as_read) (unstruck-append s (map new_line gs)) ∙ map-append as_read (unstruck s) (unstruck (map new_line gs)))

  -- as many lines as the call gave back, whether some or none
  added-step : (refusal n : ℕ) → m.count ≡ l.count + n → listed_legs m ≡ listed_legs l ++ new n → Step l c refusal n m
  unfolding written cleared_by accepted_by
  added-step refusal n e g =
      record {
        shows = λ s h. shows-added s (new n) h g;
        none_open = λ s h. none-added s (new n);
        lines = lines-added n;
        tally = omega (arith, e);
      }

  none-step : (refusal n : ℕ) → n ≡ 0 → m ≡ l → Step l c refusal n m
  unfolding firsts
  none-step refusal n z e =
      added-step refusal n (ap (λ (x : Ledger). x.count) e ∙ omega (arith, z))
      (ap listed_legs e ∙ sym (append-nil (listed_legs l)) ∙ ap (λ (i : ℕ). listed_legs l ++ new i) (sym z))

  accept-step : (refusal : ℕ) → accept_refusal l f arrival t ticks ≡ refusal → (b : Bool) → (fields_of f).ack ≡ b → Step l c refusal (accept_of l f arrival t ticks).added m
  unfolding accept_of
  accept-step (suc n) z b e = none-step (suc n) _ (refused _ 0 _ (λ y. omega arith)) (refused _ l _ (λ y. omega arith))
  accept-step zero z false e = none-step 0 _ (taken _ _ z ∙ ap (λ (b : Bool). cond b (fields_of f).count 0) e) (accept-quiet-after l f arrival t ticks k.whole z e)
  accept-step zero z true e =
      subst (λ (n : ℕ). Step l c 0 n m) (sym (accept-refusal l f arrival t ticks k.whole z e))
      (added-step 0 (fields_of f).count (accept-count l f arrival t ticks k.whole z e) (accept-legs l f arrival t ticks k z e))

-- ---- any call

pub step : (l : Ledger) (c : Call) → Good l → Step l c (refusal_of l c) (returned_count l c) (after l c)
unfolding refusal_of returned_count after accept_of clear_of
step l (accepting f arrival t ticks) k = accept-step l f arrival t ticks k (accept_refusal l f arrival t ticks) refl (fields_of f).ack refl
step l (answering by to seq reply) k = answer-step l by to seq reply k _
step l ticking k = tick-step l k _ _
step l (clearing place) k = clear_step l place k (clear_refusal l place) refl
