-- A ledger that keeps its rules keeps them after each call.
use Prim.Native.Nat.{ℕ, suc, ◌+◌, ◌-◌, ◌<◌, ◌≤◌}
use mathlib.Core.Path.{◌≡◌, refl, sym, ap, ◌∙◌}
use mathlib.Core.Bool.{Bool, true, false, cond}
use mathlib.Core.List.{List}
use native.Mathlib.Omega.{arith}
use native.Mathlib.Decide.{dec_lt, ℕ_discrete}
use lib.Dec.{eqb, leb, ltb}
use lib.ListN.{drop}
use borrow.Author.Tests.{ltb-true, ltb-false, lt-ltb, leb-false, eq-eqb}
use Rattle.lists.specs.Places.{same_at, repeat_at, repeats}
use Rattle.lists.proofs.Bools.{and_both, both_ways, not_so}
use Rattle.lists.proofs.Places.{any_false}
use Rattle.address.specs.declared.Port.{Port}
use Rattle.address.specs.declared.Seq.{Seq}
use Rattle.address.specs.declared.Address.{Address}
use Rattle.address.specs.Address.{in_range, same_address}
use Rattle.address.proofs.Laws.{same_refl}
use Rattle.envelope.specs.declared.Fixed.{Fixed}
use Rattle.envelope.specs.Frame.{destinations_offset, fields_of, destination_at}
use Rattle.envelope.proofs.Laws.{accepted, Ranged, ranged}
use Rattle.table.specs.declared.Table.{Table}
use Rattle.table.specs.Table.{choose_of}
use Rattle.ledger.specs.declared.Standing.TheVariants.{Open, Undeliverable, TimedOut, Waiting}
use Rattle.ledger.specs.declared.Leg.{Leg}
use Rattle.ledger.specs.declared.Ledger.{Ledger}
use Rattle.ledger.specs.Rules.{with_standing, leg_at, is_open, alike, ticks_obey, leg_obeys, obeys}
use Rattle.ledger.proofs.Laws.{right, Obedient}
use Rattle.ledger_answer.specs.declared.Reply.{Reply}
use Rattle.ledger_answer.specs.declared.Reply.TheVariants.{Ack, Nak}
use Rattle.ledger_answer.specs.Answer.{standing_for, settled, waits, answered, with_leg, answered_at, answered_place, answer_refusal, answer_of}
use Rattle.ledger_tick.specs.Tick.{ticked_leg, ticked_ledger, tick_refusal, tick_of}
use Rattle.ledger_clear.specs.Clear.{close_up, clear_refusal, clear_of}
use Rattle.ledger_accept.specs.Accept.{is_open_from, is_open_from_at, is_unrouted, leg_for, leg_for_at, with_legs, accept_refusal, accept_of}
use Rattle.ledger_accept.proofs.Laws.{Roomy}
use Rattle.ledger_laws.specs.Promises.{Whole}
use Rattle.ledger.proofs.Alike.{open-for, alike_is, is-alike, leg-obeys, apart-at, obeys-from}
use Rattle.ledger_laws.proofs.Places.{answer-rules, answer-found, answer-after, answer_at, answer-other, tick-rules, tick-after, tick-at, clear-rules, clear_within, clear-after, clear-before, clear-moved, frame-taken, accept-call, accept-rules, accept-quiet-after, accept-room, accept-after, accept-before, accept-new}

-- a leg after a call: the same but for its ticks and its standing, and open only if it was open before
record Narrower (g h : Leg) : Type 0 where
  source : h.source ≡ g.source
  destination : h.destination ≡ g.destination
  number : h.seq.0 ≡ g.seq.0
  was-open : is_open h.standing ≡ true → is_open g.standing ≡ true

-- legs that were not alike are not alike after it
still-apart : (g g' h h' : Leg) → Narrower g g' → Narrower h h' → alike g h ≡ false → alike g' h' ≡ false
still-apart g g' h h' m n e =
    not_so (alike g' h') (alike g h)
    (λ t.
    let a = alike_is g' h' t in
    is-alike g h (record {
      first = m.was-open a.first;
      second = record {
        stands_open = n.was-open a.second.stands_open;
        from = sym n.source ∙ a.second.from ∙ m.source;
        to = sym n.destination ∙ a.second.to ∙ m.destination;
        numbered = sym n.number ∙ a.second.numbered ∙ m.number;
      };
    }))
    e

-- and a leg that was right is right after it, if its ticks are
right-after : (g h : Leg) → Narrower g h → leg_obeys g ≡ true → (ticks_obey g ≡ true → ticks_obey h ≡ true) → leg_obeys h ≡ true
right-after g h n e f =
    let p = right g e in
    leg-obeys h (record { ticks = f p.ticks; source = ap in_range n.source ∙ p.source; destination = ap in_range n.destination ∙ p.destination; seq = rw n.number p.seq })

same-narrower : (g h : Leg) → h ≡ g → Narrower g h
same-narrower g h e =
    record { source = ap (λ (y : Leg). y.source) e; destination = ap (λ (y : Leg). y.destination) e; number = ap (λ (y : Leg). y.seq.0) e; was-open = λ o. ap (λ (y : Leg). is_open y.standing) (sym e) ∙ o }

-- ---- answer

pub reply-settles : (r : Reply) → is_open (standing_for r) ≡ false
unfolding standing_for is_open
reply-settles Ack = refl
reply-settles (Nak set code) = refl

-- what a reply leaves of a leg's fields
module _ {A : Type 0} (field : Leg → A) (r : Reply) (g : Leg) where
  answered-field : field (with_standing g g.ticks Waiting) ≡ field g → field (settled r g) ≡ field g → field (answered r g) ≡ field g
  unfolding answered
  answered-field a b = go (waits r)
    where
      go : (x : Bool) → field (cond x (with_standing g g.ticks Waiting) (settled r g)) ≡ field g
      go true = a
      go false = b

answered-narrower : (r : Reply) (g : Leg) → is_open g.standing ≡ true → Narrower g (answered r g)
unfolding settled
answered-narrower r g o =
    record {
      source = answered-field (λ (y : Leg). y.source) r g refl refl;
      destination = answered-field (λ (y : Leg). y.destination) r g refl refl;
      number = answered-field (λ (y : Leg). y.seq.0) r g refl refl;
      was-open = λ e. o;
    }

-- an open leg has ticks left, so it may go on waiting; a settled one has none
answered-ticks : (r : Reply) (g : Leg) → is_open g.standing ≡ true → ticks_obey g ≡ true → ticks_obey (answered r g) ≡ true
unfolding answered settled ticks_obey is_open
answered-ticks r g o h = go (waits r)
  where
    go : (x : Bool) → ticks_obey (cond x (with_standing g g.ticks Waiting) (settled r g)) ≡ true
    go true = ap (λ (b : Bool). cond b (ltb 0 g.ticks) (eqb g.ticks 0)) (sym o) ∙ h
    go false = ap (λ (b : Bool). cond {A = Bool} b false true) (reply-settles r)

answered-right : (r : Reply) (g : Leg) → is_open g.standing ≡ true → leg_obeys g ≡ true → leg_obeys (answered r g) ≡ true
answered-right r g o h = right-after g (answered r g) (answered-narrower r g o) h (answered-ticks r g o)

module _ (l : Ledger) (by to : Address) (seq : Seq) (reply : Reply) (whole : Whole l) (z : answer_refusal l by to seq ≡ 0) where
  abbrev after-answer : Ledger
  after-answer = (answer_of l by to seq reply).ledger

  abbrev k : ℕ
  k = answered_place l by to seq

  same_count : after-answer.count ≡ l.count
  unfolding with_leg
  same_count = ap (λ (m : Ledger). m.count) (answer-after l by to seq reply whole z)

  pub answer-open : is_open (leg_at l k).standing ≡ true
  unfolding answered_at
  answer-open = (open-for to by seq (leg_at l k) (answer-found l by to seq reply whole z).passes).stands_open

  narrower : (i : ℕ) → Narrower (leg_at l i) (leg_at after-answer i)
  narrower i = go (ℕ_discrete i k)
    where
      go : Dec (i ≡ k) → Narrower (leg_at l i) (leg_at after-answer i)
      go (yes e) = rw (e, answer_at l by to seq reply whole z) (answered-narrower reply (leg_at l k) answer-open)
      go (no ne) = same-narrower (leg_at l i) (leg_at after-answer i) (answer-other l by to seq reply whole z i ne)

  each : (i : ℕ) → i < l.count → leg_obeys (leg_at after-answer i) ≡ true
  each i h = go (ℕ_discrete i k)
    where
      go : Dec (i ≡ k) → leg_obeys (leg_at after-answer i) ≡ true
      go (yes e) = rw (e, answer_at l by to seq reply whole z) (answered-right reply (leg_at l k) answer-open ((answer-rules l by to seq reply whole z).each k (answer-found l by to seq reply whole z).below))
      go (no ne) = rw (answer-other l by to seq reply whole z i ne) ((answer-rules l by to seq reply whole z).each i h)

  apart : (i j : ℕ) → i < l.count → j < i → alike (leg_at after-answer i) (leg_at after-answer j) ≡ false
  apart i j h m =
      still-apart (leg_at l i) (leg_at after-answer i) (leg_at l j) (leg_at after-answer j) (narrower i) (narrower j)
      (apart-at l (answer-rules l by to seq reply whole z) i j h (omega arith) (λ e. omega arith))

  pub answer_keeps : obeys after-answer ≡ true
  answer_keeps =
      obeys-from after-answer (rw same_count (answer-rules l by to seq reply whole z).few) (λ i h. each i (rw same_count at h)) (λ i j h m. apart i j (rw same_count at h) m)

-- ---- tick

-- by the standing and the ticks left
module _ {A : Type 0} (field : Leg → A) (g : Leg) where
  ticked-field : field (with_standing g 0 TimedOut) ≡ field g
      → field (with_standing g (g.ticks - 1) g.standing) ≡ field g → field (ticked_leg g) ≡ field g
  unfolding ticked_leg
  ticked-field a b = go (is_open g.standing) (leb g.ticks 1)
    where
      go : (x y : Bool)
          → field (cond x (cond y (with_standing g 0 TimedOut) (with_standing g (g.ticks - 1) g.standing)) g) ≡ field g
      go true true = a
      go true false = b
      go false y = refl

-- a leg that is open after a tick was open before it
still : (g : Leg) → is_open (ticked_leg g).standing ≡ true → is_open g.standing ≡ true
unfolding ticked_leg
still g h = go (is_open g.standing) refl h
  where
    go : (x : Bool) → is_open g.standing ≡ x → is_open (cond x (cond (leb g.ticks 1) (with_standing g 0 TimedOut) (with_standing g (g.ticks - 1) g.standing)) g).standing ≡ true → x ≡ true
    go true e t = refl
    go false e t = sym e ∙ t

-- and is the same but for its ticks
ticked-narrower : (g : Leg) → Narrower g (ticked_leg g)
ticked-narrower g =
    record {
      source = ticked-field (λ (y : Leg). y.source) g refl refl;
      destination = ticked-field (λ (y : Leg). y.destination) g refl refl;
      number = ticked-field (λ (y : Leg). y.seq.0) g refl refl;
      was-open = still g;
    }

-- a leg that a tick leaves open has ticks left, and one that it ends has none
ticks-right : (g : Leg) → ticks_obey g ≡ true → ticks_obey (ticked_leg g) ≡ true
unfolding ticks_obey ticked_leg is_open
ticks-right g h = go (is_open g.standing) refl (leb g.ticks 1) refl
  where
    go : (x : Bool) → is_open g.standing ≡ x → (y : Bool) → leb g.ticks 1 ≡ y
        → ticks_obey (cond x (cond y (with_standing g 0 TimedOut) (with_standing g (g.ticks - 1) g.standing)) g) ≡ true
    go true e true f = refl
    go true e false f = rw (e, lt-ltb 0 (g.ticks - 1) (omega (arith, leb-false g.ticks 1 f)))
    go false e y f = h

ticked-right : (g : Leg) → leg_obeys g ≡ true → leg_obeys (ticked_leg g) ≡ true
ticked-right g h = right-after g (ticked_leg g) (ticked-narrower g) h (ticks-right g)

module _ (l : Ledger) (whole : Whole l) (z : tick_refusal l ≡ 0) where
  tick-count : (tick_of l).ledger.count ≡ l.count
  unfolding ticked_ledger
  tick-count = ap (λ (m : Ledger). m.count) (tick-after l whole z)

  pub tick-keeps : obeys (tick_of l).ledger ≡ true
  tick-keeps =
      let o = tick-rules l whole z in
      obeys-from (tick_of l).ledger (rw tick-count o.few)
      (λ i h.
      let k : i < l.count = rw tick-count at h in
      rw (tick-at l whole z i k) (ticked-right (leg_at l i) (o.each i k)))
      (λ i j h m.
      let k : i < l.count = rw tick-count at h in
      rw (tick-at l whole z i k, tick-at l whole z j (omega arith))
      (still-apart (leg_at l i) (ticked_leg (leg_at l i)) (leg_at l j) (ticked_leg (leg_at l j)) (ticked-narrower (leg_at l i)) (ticked-narrower (leg_at l j)) (apart-at l o i j k (omega arith) (λ e. omega arith))))

-- ---- clear

module _ (l : Ledger) (place : ℕ) (whole : Whole l) (z : clear_refusal l place ≡ 0) where
  pub clear-count : suc (clear_of l place).ledger.count ≡ l.count
  unfolding close_up
  clear-count =
      let e : (clear_of l place).ledger.count ≡ l.count - 1 = ap (λ (m : Ledger). m.count) (clear-after l place whole z) in
      omega (arith, clear_within l place whole z)

  -- where the leg at a place stood before
  from : ℕ → ℕ
  from i = cond (ltb i place) i (suc i)

  from_is : (i : ℕ) → suc i < l.count → leg_at (clear_of l place).ledger i ≡ leg_at l (from i)
  unfolding from
  from_is i h = go (ltb i place) refl
    where
      go : (b : Bool) → ltb i place ≡ b → leg_at (clear_of l place).ledger i ≡ leg_at l (cond b i (suc i))
      go true e = clear-before l place whole z i (ltb-true i place e)
      go false e = clear-moved l place whole z i (ltb-false i place e) h

  from-small : (i : ℕ) → suc i < l.count → from i < l.count
  unfolding from
  from-small i h = go (ltb i place)
    where
      go : (b : Bool) → cond b i (suc i) < l.count
      go true = omega arith
      go false = h

  from-apart : (i j : ℕ) → j < i → from i ≡ from j → ⊥
  unfolding from
  from-apart i j h = go (ltb i place) refl (ltb j place) refl
    where
      go : (b : Bool) → ltb i place ≡ b → (c : Bool) → ltb j place ≡ c → cond b i (suc i) ≡ cond c j (suc j) → ⊥
      go true p true q e = omega arith
      go true p false q e = omega (arith, ltb-true i place p, ltb-false j place q)
      go false p true q e = omega arith
      go false p false q e = omega arith

  pub clear-keeps : obeys (clear_of l place).ledger ≡ true
  clear-keeps =
      let o = clear-rules l place whole z in
      obeys-from (clear_of l place).ledger (omega (arith, clear-count, o.few))
      (λ i h.
      let k : suc i < l.count = omega (arith, clear-count) in
      rw (from_is i k) (o.each (from i) (from-small i k)))
      (λ i j h m.
      let k : suc i < l.count = omega (arith, clear-count) in
      let n : suc j < l.count = omega arith in
      rw (from_is i k, from_is j n) (apart-at l o (from i) (from j) (from-small i k) (from-small j n) (from-apart i j m)))

-- ---- accept

module _ (e : Fixed) (arrival : Port) (t : Table) (ticks : ℕ) (d : Address) where
  -- whatever the choice, the leg has the message's source and number, and the destination
  leg-field : {A : Type 0} (field : Leg → A) (a : A) → field (record { source = e.source; destination = d; seq = e.seq; ticks = 0; standing = Undeliverable }) ≡ a
      → field (record { source = e.source; destination = d; seq = e.seq; ticks = ticks; standing = Open }) ≡ a → field (leg_for e arrival t ticks d) ≡ a
  unfolding leg_for
  leg-field field a p q = go (is_unrouted (choose_of t d arrival))
    where
      go : (b : Bool) → field (cond b (record { source = e.source; destination = d; seq = e.seq; ticks = 0; standing = Undeliverable }) (record { source = e.source; destination = d; seq = e.seq; ticks = ticks; standing = Open })) ≡ a
      go true = p
      go false = q

  new-right : in_range e.source ≡ true → in_range d ≡ true → e.seq.0 ≤ 32767 → (ticks ≡ 0 → ⊥) → leg_obeys (leg_for e arrival t ticks d) ≡ true
  unfolding ticks_obey is_open
  new-right s r n lasting =
      let g = leg_for e arrival t ticks d in
      leg-obeys g (record {
        ticks = leg-field ticks_obey true refl (lt-ltb 0 ticks (omega (arith, lasting)));
        source = ap in_range (leg-field (λ (y : Leg). y.source) e.source refl refl) ∙ s;
        destination = ap in_range (leg-field (λ (y : Leg). y.destination) d refl refl) ∙ r;
        seq = rw (leg-field (λ (y : Leg). y.seq.0) e.seq.0 refl refl) n;
      })

-- an open leg with a source and a number
from-source : (source : Address) (seq : Seq) (g : Leg) → is_open g.standing ≡ true → g.source ≡ source → g.seq.0 ≡ seq.0 → is_open_from source seq g ≡ true
unfolding is_open_from
from-source source seq g o p n = and_both (and_both o (ap (same_address g.source) (sym p) ∙ same_refl g.source)) (eq-eqb _ _ n)

module _ (l : Ledger) (f : List ℕ) (arrival : Port) (t : Table) (ticks : ℕ) (whole : Whole l) (z : accept_refusal l f arrival t ticks ≡ 0) where
  abbrev after-accept : Ledger
  after-accept = (accept_of l f arrival t ticks).ledger

  abbrev e : Fixed
  e = fields_of f

  abbrev d : ℕ → Address
  d = destination_at (drop destinations_offset f)

  pub in_order : Ranged e d
  in_order = ranged e d (accepted f (frame-taken l f arrival t ticks whole z)).values.inside

  -- the frame's destinations differ
  differ : (i j : ℕ) → i < e.count → j < i → d i ≡ d j → ⊥
  unfolding repeats repeat_at same_at fields_of
  differ i j h m q =
      both_ways (ap (same_address (d i)) (sym q) ∙ same_refl (d i))
      (any_false (same_at same_address d i) i j (any_false (repeat_at same_address d) e.count i (accepted f (frame-taken l f arrival t ticks whole z)).values.distinct h) m)

  module _ (asked : e.ack ≡ true) where
    room : Roomy l e ticks
    room = accept-room l f arrival t ticks whole z asked

    rules : Obedient l
    rules = accept-rules l f arrival t ticks whole z

    pub accept-count : after-accept.count ≡ l.count + e.count
    unfolding with_legs
    accept-count = ap (λ (m : Ledger). m.count) (accept-after l f arrival t ticks whole z asked)

    abbrev new : ℕ → Leg
    new i = leg_for e arrival t ticks (d i)

    old-at : (i : ℕ) → i < l.count → leg_at after-accept i ≡ leg_at l i
    old-at = accept-before l f arrival t ticks whole z asked

    new-at : (i k : ℕ) → i ≡ l.count + k → k < e.count → leg_at after-accept i ≡ new k
    unfolding leg_for_at
    new-at i k q h = rw q (accept-new l f arrival t ticks whole z asked k h)

    each_right : (i : ℕ) → i < l.count + e.count → leg_obeys (leg_at after-accept i) ≡ true
    each_right i h = go (dec_lt i l.count)
      where
        go : Dec (i < l.count) → leg_obeys (leg_at after-accept i) ≡ true
        go (yes p) = rw (old-at i p) (rules.each i p)
        go (no p) =
            let k = i - l.count in
            rw (new-at i k (omega arith) (omega arith)) (new-right e arrival t ticks (d k) in_order.source_in (in_order.destination-in k (omega arith)) in_order.seq-le room.lasting)

    -- an old leg with the source and the number of a new one is not open
    old-new : (j k : ℕ) → j < l.count → alike (new k) (leg_at l j) ≡ false
    unfolding is_open_from_at
    old-new j k h =
        not_so (alike (new k) (leg_at l j)) (is_open_from_at l e.source e.seq j)
        (λ a.
        let s = (alike_is (new k) (leg_at l j) a).second in
        from-source e.source e.seq (leg_at l j) s.stands_open
        (s.from ∙ leg-field e arrival t ticks (d k) (λ (y : Leg). y.source) e.source refl refl)
        (s.numbered ∙ leg-field e arrival t ticks (d k) (λ (y : Leg). y.seq.0) e.seq.0 refl refl))
        (any_false (is_open_from_at l e.source e.seq) l.count j room.fresh h)

    -- two new legs have different destinations
    new-new : (k m : ℕ) → k < e.count → m < k → alike (new k) (new m) ≡ false
    new-new k m h n =
        not_so (alike (new k) (new m)) false
        (λ a.
        let s = (alike_is (new k) (new m) a).second in
        let goal : Leg → Address = λ x. x.destination in
        absurd (differ k m h n
        (sym (leg-field e arrival t ticks (d k) goal (d k) refl refl) ∙ sym s.to ∙ leg-field e arrival t ticks (d m) goal (d m) refl refl)))
        refl

    each-apart : (i j : ℕ) → i < l.count + e.count → j < i → alike (leg_at after-accept i) (leg_at after-accept j) ≡ false
    each-apart i j h m = go (dec_lt i l.count) (dec_lt j l.count)
      where
        go : Dec (i < l.count) → Dec (j < l.count) → alike (leg_at after-accept i) (leg_at after-accept j) ≡ false
        go (yes p) q = rw (old-at i p, old-at j (omega arith)) (apart-at l rules i j p (omega arith) (λ c. omega arith))
        go (no p) (yes q) =
            let k = i - l.count in
            rw (new-at i k (omega arith) (omega arith), old-at j q) (old-new j k q)
        go (no p) (no q) =
            let k = i - l.count in
            let n = j - l.count in
            rw (new-at i k (omega arith) (omega arith), new-at j n (omega arith) (omega arith)) (new-new k n (omega arith) (omega arith))

    asked-keeps : obeys after-accept ≡ true
    asked-keeps =
        obeys-from after-accept (omega (arith, accept-count, room.room, rules.few))
        (λ i h. each_right i (rw accept-count at h))
        (λ i j h m. each-apart i j (rw accept-count at h) m)

  pub accept-keeps : obeys after-accept ≡ true
  accept-keeps = go e.ack refl
    where
      go : (b : Bool) → e.ack ≡ b → obeys after-accept ≡ true
      go true a = asked-keeps a
      go false a = rw (accept-quiet-after l f arrival t ticks whole z a) (accept-call l f arrival t ticks whole z).rules
