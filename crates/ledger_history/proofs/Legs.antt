-- The legs that a ledger lists after each call, as a list made from those that it listed before.
use Prim.Native.Nat.{ℕ, zero, suc, ◌+◌, ◌-◌, ◌≤◌, ◌<◌}
use mathlib.Core.Path.{◌≡◌, refl, sym, ap, subst, ◌∙◌}
use mathlib.Core.Bool.{Bool, true, false, cond}
use mathlib.Core.List.{List, [], ◌∷◌, ◌++◌, map}
use native.Mathlib.Nat.{le_of_suc-le-suc, not-suc-le-zero}
use native.Mathlib.Omega.{arith}
use lib.ListN.{length, get_or, take, drop, length-append, length-map}
use lib.Seq.{length-take-le, get_or-take, ext_get_or, take_at, sets-eq}
use Rattle.lists.specs.Places.{element_at, firsts}
use Rattle.lists.specs.Lists.{without}
use Rattle.lists.proofs.Bools.{both_ways}
use Rattle.lists.proofs.Lists.{length_without}
use Rattle.lists.proofs.Places.{length-firsts}
use Rattle.address.specs.declared.Port.{Port}
use Rattle.address.specs.declared.Seq.{Seq}
use Rattle.address.specs.declared.Address.{Address}
use Rattle.envelope.specs.Frame.{destinations_offset, fields_of, destination_at}
use Rattle.table.specs.declared.Table.{Table}
use Rattle.ledger.specs.declared.Leg.{Leg}
use Rattle.ledger.specs.declared.Ledger.{Ledger}
use Rattle.ledger.specs.Rules.{no_leg, leg_at, is_open_leg, obeys}
use Rattle.ledger.proofs.Laws.{obedient}
use Rattle.ledger_answer.specs.declared.Reply.{Reply}
use Rattle.ledger_answer.specs.Answer.{answered, answered_at, answer_refusal, answer_of}
use Rattle.ledger_tick.specs.Tick.{ticked_leg, tick_of}
use Rattle.ledger_clear.specs.Clear.{close_up, clear_refusal, clear_of}
use Rattle.ledger_accept.specs.Accept.{leg_for_at, with_legs, accept_refusal, accept_of}
use Rattle.ledger_laws.specs.Calls.{Call, answering, ticking, refusal_of, after}
use Rattle.ledger_laws.specs.Promises.{Whole}
use Rattle.ledger_laws.proofs.Places.{answer-found, answer-other, clear_within, clear-after, accept-room, accept-after}
use Rattle.ledger_laws.proofs.Promises.{as_was, places-kept, rules_kept, is-named, reached, answer-closes, tick-counts}
use Rattle.ledger_history.specs.Promises.{listed_legs}
use Rattle.ledger_history.proofs.Reading.{answered_if}

-- a ledger of 128 places that obeys its rules
pub record Good (l : Ledger) : Type 0 where
  pub whole : Whole l
  pub rules : obeys l ≡ true

pub good-after : (l : Ledger) (c : Call) → Good l → Good (after l c)
good-after l c k = record { whole = places-kept l c k.whole; rules = rules_kept l c k.whole k.rules }

pub few : (l : Ledger) → Good l → l.count ≤ 128
few l k = (obedient l k.rules).few

within : (l : Ledger) → Good l → l.count ≤ length l.legs
within l k = omega (arith, few l k, k.whole)

pub listed-count : (l : Ledger) → Good l → length (listed_legs l) ≡ l.count
unfolding listed_legs
listed-count l k = length-take-le l.count l.legs (within l k)

pub listed_at : (l : Ledger) (i : ℕ) → i < l.count → get_or (listed_legs l) i no_leg ≡ leg_at l i
unfolding listed_legs leg_at element_at
listed_at l i h = get_or-take l.count l.legs i no_leg h

-- ---- the same done at every place is done to every leg listed

map_at : (f : Leg → Leg) (gs : List Leg) (i : ℕ) → i < length gs → get_or (map f gs) i no_leg ≡ f (get_or gs i no_leg)
map_at f [] i h = absurd (not-suc-le-zero h)
map_at f (g ∷ gs) zero h = refl
map_at f (g ∷ gs) (suc i) h = map_at f gs i (le_of_suc-le-suc h)

each-leg : (l m : Ledger) (f : Leg → Leg) → Good l → Good m → m.count ≡ l.count → ((i : ℕ) → i < l.count → leg_at m i ≡ f (leg_at l i))
    → listed_legs m ≡ map f (listed_legs l)
each-leg l m f k w c e =
    let n = listed-count l k in
    let long : length (listed_legs m) ≡ l.count = listed-count m w ∙ c in
    ext_get_or no_leg (listed_legs m) (map f (listed_legs l)) (long ∙ sym n ∙ sym (length-map (listed_legs l) f))
    (λ i h.
    let lt : i < l.count = subst (λ (x : ℕ). i < x) long h in
    listed_at m i (subst (λ (x : ℕ). i < x) (sym c) lt)
    ∙ e i lt
    ∙ ap f (sym (listed_at l i lt))
    ∙ sym (map_at f (listed_legs l) i (subst (λ (x : ℕ). i < x) (sym n) lt)))

-- ---- answer

module _ (l : Ledger) (by to : Address) (seq : Seq) (reply : Reply) (k : Good l) where
  abbrev m : Ledger
  m = (answer_of l by to seq reply).ledger

  pub answer-count : m.count ≡ l.count
  answer-count = (answer-closes l by to seq reply k.whole k.rules).count

  -- a leg that the answer is not for stays as it was
  unnamed : (i : ℕ) → is_open_leg to by seq (leg_at l i) ≡ false → (n : ℕ) → answer_refusal l by to seq ≡ n → leg_at m i ≡ leg_at l i
  unfolding refusal_of after answer_of answered_at
  unnamed i e zero z =
      answer-other l by to seq reply k.whole z i
      (λ q. both_ways (answer-found l by to seq reply k.whole z).passes (ap (λ (j : ℕ). is_open_leg to by seq (leg_at l j)) (sym q) ∙ e))
  unnamed i e (suc n) z = ap (λ (x : Ledger). leg_at x i) (as_was l (answering by to seq reply) (λ y. omega arith))

  at_each : (i : ℕ) → i < l.count → leg_at m i ≡ answered_if by to seq reply (leg_at l i)
  unfolding answered_if
  at_each i h = go (is_open_leg to by seq (leg_at l i)) refl
    where
      go : (b : Bool) → is_open_leg to by seq (leg_at l i) ≡ b → leg_at m i ≡ cond (is_open_leg to by seq (leg_at l i)) (answered reply (leg_at l i)) (leg_at l i)
      go true e =
          reached l by to seq reply k.whole k.rules i (is-named l by to seq reply k.whole k.rules i h e)
          ∙ ap (λ (b : Bool). cond b (answered reply (leg_at l i)) (leg_at l i)) (sym e)
      go false e = unnamed i e (answer_refusal l by to seq) refl ∙ ap (λ (b : Bool). cond b (answered reply (leg_at l i)) (leg_at l i)) (sym e)

  -- it reaches every leg that it is for, since there is at most one
  pub answer-legs : listed_legs m ≡ map (answered_if by to seq reply) (listed_legs l)
  unfolding after
  answer-legs = each-leg l m (answered_if by to seq reply) k (good-after l (answering by to seq reply) k) answer-count at_each

-- ---- tick

module _ (l : Ledger) (k : Good l) where
  pub tick-count : (tick_of l).ledger.count ≡ l.count
  tick-count = (tick-counts l k.whole k.rules).count

  pub tick-legs : listed_legs (tick_of l).ledger ≡ map ticked_leg (listed_legs l)
  unfolding after
  tick-legs = each-leg l (tick_of l).ledger ticked_leg k (good-after l ticking k) tick-count (tick-counts l k.whole k.rules).each

-- ---- clear

module _ (l : Ledger) (place : ℕ) (k : Good l) (z : clear_refusal l place ≡ 0) where
  left-count : suc (length (without place (listed_legs l))) ≡ l.count
  left-count =
      length_without place (listed_legs l) (subst (λ (n : ℕ). place < n) (sym (listed-count l k)) (clear_within l place k.whole z))
      ∙ listed-count l k

  pub clear-legs : listed_legs (clear_of l place).ledger ≡ without place (listed_legs l)
  unfolding close_up listed_legs
  clear-legs =
      ap listed_legs (clear-after l place k.whole z)
      ∙ take_at (without place (take l.count l.legs)) (no_leg ∷ drop l.count l.legs) (l.count - 1) (omega (arith, left-count))

-- ---- accept

module _ (l : Ledger) (f : List ℕ) (arrival : Port) (t : Table) (ticks : ℕ) (k : Good l) where
  abbrev new : List Leg
  new = firsts (leg_for_at (fields_of f) (destination_at (drop destinations_offset f)) arrival t ticks) (fields_of f).count

  pub accept-legs : accept_refusal l f arrival t ticks ≡ 0 → (fields_of f).ack ≡ true → listed_legs (accept_of l f arrival t ticks).ledger ≡ listed_legs l ++ new
  unfolding with_legs listed_legs
  accept-legs z asked =
      let n : length new ≡ (fields_of f).count = length-firsts (leg_for_at (fields_of f) (destination_at (drop destinations_offset f)) arrival t ticks) (fields_of f).count in
      let room = (accept-room l f arrival t ticks k.whole z asked).room in
      let old : length (take l.count l.legs) ≡ l.count = length-take-le l.count l.legs (within l k) in
      ap listed_legs (accept-after l f arrival t ticks k.whole z asked)
      ∙ ap (take (l.count + (fields_of f).count)) (sets-eq new l.legs l.count (omega (arith, n, room, few l k, k.whole)))
      ∙ take_at (take l.count l.legs ++ new) (drop (l.count + length new) l.legs) (l.count + (fields_of f).count)
      (length-append (take l.count l.legs) new ∙ omega (arith, n, old))
