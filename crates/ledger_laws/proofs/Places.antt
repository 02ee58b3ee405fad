-- What stands at each place of a ledger after a call that was not refused.
use Prim.Native.Nat.{ℕ, suc, ◌+◌, ◌-◌, ◌<◌, ◌≤◌}
use mathlib.Core.Path.{◌≡◌, refl, ap, ◌∙◌}
use mathlib.Core.Bool.{Bool, true, false, not, cond}
use mathlib.Core.List.{List, ◌∷◌, ◌++◌}
use native.Mathlib.Omega.{arith}
use lib.Dec.{ltb}
use lib.ListN.{length, get_or, take, drop, get_or-append, length-append, length-take, length-drop, length-map, length-set}
use lib.Seq.{length-sets, get_or-set_same, get_or-set_other, get_or-take, get_or-drop, get_or_at, get_or-append-add, length-take-le}
use borrow.Author.Tests.{ltb-true, not-false}
use Rattle.lists.specs.Places.{any_below, element_at, firsts}
use Rattle.lists.specs.Lists.{without}
use Rattle.lists.proofs.Bools.{and_left}
use Rattle.lists.proofs.Places.{FirstAt, first_found, length-firsts, firsts_at}
use Rattle.lists.proofs.Stores.{sets-before, sets-within, sets-after}
use Rattle.lists.proofs.Lists.{without-before, without-after, length_without, mapped_at, mapped-past}
use Rattle.lists.proofs.Refusals.{pass, or-pass, taken}
use Rattle.address.specs.declared.Port.{Port}
use Rattle.address.specs.declared.Seq.{Seq}
use Rattle.address.specs.declared.Address.{Address}
use Rattle.envelope.specs.Frame.{destinations_offset, fields_of, destination_at}
use Rattle.envelope.specs.Refusal.{stray_at, frame_refusal}
use Rattle.table.specs.declared.Table.{Table}
use Rattle.ledger.specs.declared.Leg.{Leg}
use Rattle.ledger.specs.declared.Ledger.{Ledger}
use Rattle.ledger.specs.Rules.{no_leg, leg_at, obeys}
use Rattle.ledger.proofs.Laws.{Obedient, obedient}
use Rattle.ledger_answer.specs.declared.Reply.{Reply}
use Rattle.ledger_answer.specs.Answer.{answered, with_leg, answered_at, answered_place, answer_refusal, answer_of}
use Rattle.ledger_tick.specs.Tick.{ticked_leg, ticked_ledger, tick_refusal, tick_of}
use Rattle.ledger_clear.specs.Clear.{close_up, settled_at, clear_refusal, clear_of}
use Rattle.ledger_accept.specs.Accept.{leg_for_at, with_legs, call_refusal, accept_refusal, accept_of}
use Rattle.ledger_accept.proofs.Laws.{Called, called, Roomy, roomy}
use Rattle.ledger_laws.specs.Promises.{Whole}

-- ---- answer

module _ (l : Ledger) (by to : Address) (seq : Seq) (reply : Reply) (whole : Whole l) (z : answer_refusal l by to seq ≡ 0) where
  pub answer-rules : Obedient l
  unfolding answer_refusal
  answer-rules = obedient l (not-false _ (pass 59 (not (obeys l)) _ z).0)

  pub answer-found : FirstAt (answered_at l by to seq) l.count (answered_place l by to seq)
  unfolding answer_refusal answered_place
  answer-found = first_found (answered_at l by to seq) l.count (not-false _ (pass 63 (not (any_below (answered_at l by to seq) l.count)) 0 (pass 59 (not (obeys l)) _ z).1).0)

  abbrev k : ℕ
  k = answered_place l by to seq

  pub answer-after : (answer_of l by to seq reply).ledger ≡ with_leg l k (answered reply (leg_at l k))
  unfolding answer_of
  answer-after = taken _ _ z

  pub answer-whole : Whole (answer_of l by to seq reply).ledger
  unfolding with_leg
  answer-whole = rw answer-after (length-set l.legs k (answered reply (leg_at l k)) ∙ whole)

  pub answer_at : leg_at (answer_of l by to seq reply).ledger k ≡ answered reply (leg_at l k)
  unfolding with_leg leg_at element_at
  answer_at = rw answer-after (get_or-set_same l.legs k (answered reply (leg_at l k)) no_leg (omega (arith, answer-found.below, answer-rules.few, whole)))

  pub answer-other : (j : ℕ) → (j ≡ k → ⊥) → leg_at (answer_of l by to seq reply).ledger j ≡ leg_at l j
  unfolding with_leg leg_at element_at
  answer-other j ne = rw answer-after (get_or-set_other l.legs k j (answered reply (leg_at l k)) no_leg ne)

-- ---- tick

module _ (l : Ledger) (whole : Whole l) (z : tick_refusal l ≡ 0) where
  pub tick-rules : Obedient l
  unfolding tick_refusal
  tick-rules = obedient l (not-false _ (pass 59 (not (obeys l)) _ z).0)

  pub tick-after : (tick_of l).ledger ≡ ticked_ledger l
  unfolding tick_of
  tick-after = taken _ _ z

  pub tick-whole : Whole (tick_of l).ledger
  unfolding ticked_ledger
  tick-whole = rw tick-after (simp (length-append, length-map, length-take, length-drop) (omega (arith, tick-rules.few, whole)))

  pub tick-at : (i : ℕ) → i < l.count → leg_at (tick_of l).ledger i ≡ ticked_leg (leg_at l i)
  unfolding ticked_ledger leg_at element_at
  tick-at i h = rw tick-after (mapped_at no_leg ticked_leg l.count i l.legs h (omega (arith, tick-rules.few, whole)))

  pub tick-past : (i : ℕ) → l.count ≤ i → leg_at (tick_of l).ledger i ≡ leg_at l i
  unfolding ticked_ledger leg_at element_at
  tick-past i h = rw tick-after (mapped-past no_leg ticked_leg l.count i l.legs h (omega (arith, tick-rules.few, whole)))

-- ---- clear

module _ (l : Ledger) (place : ℕ) (whole : Whole l) (z : clear_refusal l place ≡ 0) where
  pub clear-rules : Obedient l
  unfolding clear_refusal
  clear-rules = obedient l (not-false _ (pass 59 (not (obeys l)) _ z).0)

  pub clear_within : place < l.count
  unfolding clear_refusal settled_at
  clear_within = ltb-true _ _ (and_left (ltb place l.count) _ (not-false _ (pass 64 (not (settled_at l place)) 0 (pass 59 (not (obeys l)) _ z).1).0))

  pub clear-after : (clear_of l place).ledger ≡ close_up l place
  unfolding clear_of
  clear-after = taken _ _ z

  counted : List Leg
  counted = take l.count l.legs

  length-counted : length counted ≡ l.count
  unfolding counted
  length-counted = length-take-le l.count l.legs (omega (arith, clear-rules.few, whole))

  length-left : suc (length (without place counted)) ≡ l.count
  length-left = length_without place counted (rw length-counted clear_within) ∙ length-counted

  -- a place that counts after the call
  left_at : (i : ℕ) → suc i < l.count → leg_at (clear_of l place).ledger i ≡ get_or (without place counted) i no_leg
  unfolding close_up leg_at element_at counted
  left_at i h = rw clear-after (get_or-append (without place counted) (no_leg ∷ drop l.count l.legs) no_leg i (omega (arith, length-left)))

  pub clear_whole : Whole (clear_of l place).ledger
  unfolding close_up counted
  clear_whole =
      rw clear-after
      (simp (length-append, length-drop) (omega (arith, length-left, clear-rules.few, whole)))

  pub clear-before : (i : ℕ) → i < place → leg_at (clear_of l place).ledger i ≡ leg_at l i
  unfolding leg_at element_at counted
  clear-before i h =
      left_at i (omega (arith, clear_within))
      ∙ without-before no_leg place i counted h
      ∙ get_or-take l.count l.legs i no_leg (omega (arith, clear_within))

  pub clear-moved : (i : ℕ) → place ≤ i → suc i < l.count → leg_at (clear_of l place).ledger i ≡ leg_at l (suc i)
  unfolding leg_at element_at counted
  clear-moved i h m =
      left_at i m
      ∙ without-after no_leg place i counted h
      ∙ get_or-take l.count l.legs (suc i) no_leg m

  pub clear-last : (i : ℕ) → suc i ≡ l.count → leg_at (clear_of l place).ledger i ≡ no_leg
  unfolding close_up leg_at element_at counted
  clear-last i e = rw clear-after (get_or_at (without place counted) no_leg (drop l.count l.legs) no_leg i (omega (arith, length-left)))

  pub clear-past : (i : ℕ) → l.count ≤ i → leg_at (clear_of l place).ledger i ≡ leg_at l i
  unfolding close_up leg_at element_at counted
  clear-past i h =
      let d = i - l.count in
      let e : i ≡ length (without place counted) + suc d = omega (arith, length-left) in
      let q : l.count + d ≡ i = omega arith in
      rw clear-after
      (ap (λ (n : ℕ). get_or (without place counted ++ no_leg ∷ drop l.count l.legs) n no_leg) e
      ∙ get_or-append-add (without place counted) (no_leg ∷ drop l.count l.legs) (suc d) no_leg
      ∙ get_or-drop l.count l.legs d no_leg
      ∙ ap (λ (n : ℕ). get_or l.legs n no_leg) q)

-- ---- accept

module _ (l : Ledger) (f : List ℕ) (arrival : Port) (t : Table) (ticks : ℕ) (whole : Whole l) (z : accept_refusal l f arrival t ticks ≡ 0) where
  pub frame-taken : frame_refusal f ≡ 0
  unfolding accept_refusal
  frame-taken = (or-pass (frame_refusal f) _ z).0

  pub call-taken : call_refusal l (fields_of f) (any_below (stray_at (destination_at (drop destinations_offset f))) (fields_of f).count) arrival t ticks ≡ 0
  unfolding accept_refusal
  call-taken = (or-pass (frame_refusal f) _ z).1

  pub accept-call : Called l (fields_of f) arrival t
  accept-call = called l (fields_of f) _ arrival t ticks call-taken

  pub accept-rules : Obedient l
  accept-rules = obedient l accept-call.rules

  pub accept-quiet-after : (fields_of f).ack ≡ false → (accept_of l f arrival t ticks).ledger ≡ l
  unfolding accept_of
  accept-quiet-after a = taken _ _ z ∙ ap (λ (b : Bool). cond b (with_legs l (fields_of f) (destination_at (drop destinations_offset f)) arrival t ticks) l) a

  module _ (asked : (fields_of f).ack ≡ true) where
    pub accept-room : Roomy l (fields_of f) ticks
    accept-room = roomy l (fields_of f) _ arrival t ticks call-taken asked

    abbrev new : ℕ → Leg
    new = leg_for_at (fields_of f) (destination_at (drop destinations_offset f)) arrival t ticks

    pub accept-after : (accept_of l f arrival t ticks).ledger ≡ with_legs l (fields_of f) (destination_at (drop destinations_offset f)) arrival t ticks
    unfolding accept_of
    accept-after = taken _ _ z ∙ ap (λ (b : Bool). cond b (with_legs l (fields_of f) (destination_at (drop destinations_offset f)) arrival t ticks) l) asked

    accept-asked-whole : Whole (accept_of l f arrival t ticks).ledger
    unfolding with_legs
    accept-asked-whole = rw accept-after (length-sets l.legs l.count (firsts new (fields_of f).count) ∙ whole)

    pub accept-refusal : (accept_of l f arrival t ticks).added ≡ (fields_of f).count
    unfolding accept_of
    accept-refusal = taken _ _ z ∙ ap (λ (b : Bool). cond b (fields_of f).count 0) asked

    pub accept-before : (i : ℕ) → i < l.count → leg_at (accept_of l f arrival t ticks).ledger i ≡ leg_at l i
    unfolding with_legs leg_at element_at
    accept-before i h = rw accept-after (sets-before no_leg (firsts new (fields_of f).count) l.legs l.count i h)

    pub accept-new : (i : ℕ) → i < (fields_of f).count → leg_at (accept_of l f arrival t ticks).ledger (l.count + i) ≡ new i
    unfolding with_legs leg_at element_at
    accept-new i h =
        let n = length-firsts new (fields_of f).count in
        rw accept-after
        (sets-within no_leg (firsts new (fields_of f).count) l.legs l.count i (rw n h) (omega (arith, n, accept-room.room, accept-rules.few, whole))
        ∙ firsts_at new (fields_of f).count i no_leg h)

    pub accept-past : (i : ℕ) → l.count + (fields_of f).count ≤ i → leg_at (accept_of l f arrival t ticks).ledger i ≡ leg_at l i
    unfolding with_legs leg_at element_at
    accept-past i h = rw accept-after (sets-after no_leg (firsts new (fields_of f).count) l.legs l.count i (rw (length-firsts new (fields_of f).count) h))

  pub accept-whole : Whole (accept_of l f arrival t ticks).ledger
  accept-whole = go (fields_of f).ack refl
    where
      go : (b : Bool) → (fields_of f).ack ≡ b → Whole (accept_of l f arrival t ticks).ledger
      go true a = accept-asked-whole a
      go false a = rw (accept-quiet-after a) whole
