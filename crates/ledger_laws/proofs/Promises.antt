-- The theorems of the ledger.
use Prim.Native.Nat.{ℕ, zero, suc, ◌-◌, ◌<◌, ◌≤◌}
use mathlib.Core.Path.{◌≡◌, refl, sym, ap, ◌∙◌}
use mathlib.Core.Bool.{Bool, true, false, not, ◌&&◌, cond}
use mathlib.Core.List.{[], ◌∷◌}
use mathlib.Core.Logic.{◌↔◌}
use native.Mathlib.Omega.{arith}
use native.Mathlib.Decide.{ℕ_discrete}
use lib.Dec.{leb, ltb, eqb}
use lib.ListN.{drop}
use borrow.Author.Tests.{le-leb, ltb-true, lt-ltb, eqb-true, eq-eqb, ne_eqb}
use Rattle.lists.specs.Places.{any_below}
use Rattle.lists.specs.Refusals.{refuse, among}
use Rattle.lists.proofs.Bools.{and_left, and_right, no_true, both_ways}
use Rattle.lists.proofs.Places.{any_found, any-nowhere}
use Rattle.lists.proofs.Refusals.{taken, refused, either_way}
use Rattle.address.specs.declared.Port.{Port}
use Rattle.address.specs.declared.Seq.{Seq}
use Rattle.address.specs.declared.Address.{Address}
use Rattle.address.specs.Address.{in_range}
use Rattle.envelope.specs.Frame.{destinations_offset, fields_of, destination_at}
use Rattle.table.specs.Choice.{Choice, Local, Out, Refused}
use Rattle.table.specs.declared.Table.{Table}
use Rattle.table.specs.Table.{table_in_range, call_in_range, is_own, has_route, out_port, out_choice, choose_of, choice_refusal}
use Rattle.ledger.specs.declared.Standing.TheVariants.{Open, Undeliverable, TimedOut, Waiting}
use Rattle.ledger.specs.declared.Leg.{Leg}
use Rattle.ledger.specs.declared.Ledger.{Ledger}
use Rattle.ledger.specs.Rules.{with_standing, leg_at, is_open, is_open_leg, ticks_obey, leg_obeys, obeys}
use Rattle.ledger.proofs.Laws.{right, obedient}
use Rattle.ledger_answer.specs.declared.Reply.{Reply}
use Rattle.ledger_answer.specs.declared.Reply.TheVariants.{Ack, Nak}
use Rattle.ledger_answer.specs.Answer.{standing_for, settled, waits, answered, with_leg, answered_at, answered_place, answer_refusal, answer_of}
use Rattle.ledger_tick.specs.Tick.{times_out, ticked_leg, ticked_ledger, tick_refusal, tick_of}
use Rattle.ledger_clear.specs.Clear.{settled_at, clear_refusal, clear_of}
use Rattle.ledger_accept.specs.Accept.{call_refusal, accept_refusal, is_unrouted, leg_for, leg_for_at, accept_of}
use Rattle.ledger_laws.specs.Calls.{Call, accepting, answering, ticking, clearing, refusal_of, after}
use Rattle.ledger_laws.specs.Promises.{Whole, PlacesKept, AsWas, TwoAlike, KeepsRules, RulesAre, RulesKept, broken_refusal, RulesBroken, Named, Answers, AnswerCloses, Ticks, TickCounts, ClearRemoves, Settled, ClearRefuses, AcceptAdds}
use Rattle.ledger.proofs.Alike.{open-for, is-for, Alike, alike_is, is-alike, leg-obeys, apart-at, only_one, obeys-from}
use Rattle.ledger_laws.proofs.Places.{answer-whole, tick-whole, clear_whole, accept-whole, answer-found, answer_at, answer-other, tick-at, tick-past, clear-before, clear-moved, clear-last, clear-past, accept-call, accept-refusal, accept-before, accept-new, accept-past}
use Rattle.ledger_laws.proofs.Keeps.{answer-open, answer_keeps, tick-keeps, clear-count, clear-keeps, in_order, accept-count, accept-keeps}

-- ---- the rules

-- ticks by the standing, both ways
module _ (g : Leg) where
  ticks-lasting : ticks_obey g ≡ true → is_open g.standing ≡ true → 0 < g.ticks
  unfolding ticks_obey
  ticks-lasting h w = ltb-true 0 g.ticks (rw w at h)

  ticks-ended : ticks_obey g ≡ true → is_open g.standing ≡ false → g.ticks ≡ 0
  unfolding ticks_obey
  ticks-ended h w = eqb-true g.ticks 0 (rw w at h)

  ticks-right : (is_open g.standing ≡ true → 0 < g.ticks) → (is_open g.standing ≡ false → g.ticks ≡ 0) → ticks_obey g ≡ true
  unfolding ticks_obey
  ticks-right lasting ended = go (is_open g.standing) refl
    where
      go : (b : Bool) → is_open g.standing ≡ b → cond b (ltb 0 g.ticks) (eqb g.ticks 0) ≡ true
      go true e = lt-ltb 0 g.ticks (lasting e)
      go false e = eq-eqb g.ticks 0 (ended e)

-- a refused call returns its ledger as it was
pub as_was : AsWas
unfolding refusal_of after accept_of answer_of tick_of clear_of
as_was l (accepting f arrival t ticks) h = refused _ l _ h
as_was l (answering by to seq reply) h = refused _ l _ h
as_was l ticking h = refused _ l _ h
as_was l (clearing place) h = refused _ l _ h

-- a call that gives another number than 0 keeps the rules, since it changes nothing
kept : (l : Ledger) (c : Call) → obeys l ≡ true → (n : ℕ) → refusal_of l c ≡ n → (refusal_of l c ≡ 0 → obeys (after l c) ≡ true) → obeys (after l c) ≡ true
kept l c h zero e f = f e
kept l c h (suc n) e f = rw (as_was l c (λ z. omega arith)) h

-- the 128 places stay, whatever the call
taken-whole : (l : Ledger) (c : Call) → Whole l → refusal_of l c ≡ 0 → Whole (after l c)
unfolding refusal_of after accept_of answer_of tick_of clear_of
taken-whole l (accepting f arrival t ticks) w z = accept-whole l f arrival t ticks w z
taken-whole l (answering by to seq reply) w z = answer-whole l by to seq reply w z
taken-whole l ticking w z = tick-whole l w z
taken-whole l (clearing place) w z = clear_whole l place w z

pub places-kept : PlacesKept
places-kept l c w = go (refusal_of l c) refl
  where
    go : (n : ℕ) → refusal_of l c ≡ n → Whole (after l c)
    go zero e = taken-whole l c w e
    go (suc n) e = rw (as_was l c (λ z. omega arith)) w

taken-keeps : (l : Ledger) (c : Call) → Whole l → refusal_of l c ≡ 0 → obeys (after l c) ≡ true
unfolding refusal_of after accept_of answer_of tick_of clear_of
taken-keeps l (accepting f arrival t ticks) w z = accept-keeps l f arrival t ticks w z
taken-keeps l (answering by to seq reply) w z = answer_keeps l by to seq reply w z
taken-keeps l ticking w z = tick-keeps l w z
taken-keeps l (clearing place) w z = clear-keeps l place w z

-- a ledger that keeps its rules keeps them after every call
pub rules_kept : RulesKept
rules_kept l c w h = kept l c h (refusal_of l c) refl (taken-keeps l c w)

-- a ledger that breaks them is 60 for every call
pub rules-broken : RulesBroken
unfolding refusal_of broken_refusal accept_of accept_refusal call_refusal answer_of answer_refusal tick_of tick_refusal clear_of clear_refusal
rules-broken l (accepting f arrival t ticks) h = rw h
rules-broken l (answering by to seq reply) h = rw h
rules-broken l ticking h = rw h
rules-broken l (clearing place) h = rw h

-- a ledger obeys exactly if it keeps its rules
pub rules-are : RulesAre
rules-are l = (keeps, λ k. obeys-from l k.few (each k) (λ i j h m. no_true (λ e. k.apart i j h (omega arith) (λ q. omega arith) (two i j (alike_is _ _ e)))))
  where
    two : (i j : ℕ) → Alike (leg_at l i) (leg_at l j) → TwoAlike l i j
    two i j a = record { first = a.first; second = a.second.stands_open; source = sym a.second.from; destination = sym a.second.to; number = sym a.second.numbered }

    keeps : obeys l ≡ true → KeepsRules l
    keeps h =
        let o = obedient l h in
        record {
          few = o.few;
          lasting = λ i m w. ticks-lasting (leg_at l i) (right _ (o.each i m)).ticks w;
          ended = λ i m w. ticks-ended (leg_at l i) (right _ (o.each i m)).ticks w;
          source = λ i m. (right _ (o.each i m)).source;
          destination = λ i m. (right _ (o.each i m)).destination;
          number = λ i m. (right _ (o.each i m)).seq;
          apart = λ i j m n ne a.
              both_ways
              (is-alike (leg_at l i) (leg_at l j) (record {
                first = a.first;
                second = record { stands_open = a.second; from = sym a.source; to = sym a.destination; numbered = sym a.number };
              }))
              (apart-at l o i j m n ne);
        }

    each : KeepsRules l → (i : ℕ) → i < l.count → leg_obeys (leg_at l i) ≡ true
    each k i m = leg-obeys (leg_at l i) (record { ticks = ticks-right (leg_at l i) (k.lasting i m) (k.ended i m); source = k.source i m; destination = k.destination i m; seq = k.number i m })

-- ---- answer

-- a reply that does not say wait settles; 2 and 13 alone say it
settles : (r : Reply) → waits r ≡ false → (g : Leg) → answered r g ≡ settled r g
unfolding answered
settles r e g = rw e

no-wait : (set code : ℕ) → ((set ≡ 2) × (code ≡ 13) → ⊥) → waits (Nak set code) ≡ false
unfolding waits
no-wait set code other = no_true (λ e. other (eqb-true set 2 (and_left (eqb set 2) _ e), eqb-true code 13 (and_right (eqb set 2) _ e)))

pub waits-on : (g : Leg) → answered (Nak 2 13) g ≡ with_standing g g.ticks Waiting
unfolding answered waits
waits-on g = refl

marked : (g : Leg) → is_open (answered (Nak 2 13) g).standing ≡ true
unfolding answered waits is_open
marked g = refl

-- demand 2, of any answer to a ledger that keeps its rules
module _ (l : Ledger) (by to : Address) (seq : Seq) (reply : Reply) (whole : Whole l) (rules : obeys l ≡ true) where
  -- the test for the leg that an answer names, both ways
  named-is : (k : ℕ) → Named l by to seq reply k → is_open_leg to by seq (leg_at l k) ≡ true
  named-is k n = is-for to by seq (leg_at l k) (record { stands_open = n.stands_open; from = n.source; to = n.destination; numbered = n.number })

  pub is-named : (k : ℕ) → k < l.count → is_open_leg to by seq (leg_at l k) ≡ true → Named l by to seq reply k
  is-named k h e = let o = open-for to by seq (leg_at l k) e in record { counts = h; stands_open = o.stands_open; source = o.from; destination = o.to; number = o.numbered }

  found : (k : ℕ) → Named l by to seq reply k → answer_refusal l by to seq ≡ 0
  unfolding answer_refusal answered_at
  found k n = rw (rules, any_found (answered_at l by to seq) l.count k n.counts (named-is k n))

  only : (i j : ℕ) → Named l by to seq reply i → Named l by to seq reply j → i ≡ j
  only i j a b = only_one l (obedient l rules) to by seq i j a.counts b.counts (named-is i a) (named-is j b)

  -- the place that is searched for is the one named
  place_is : (k : ℕ) → (n : Named l by to seq reply k) → answered_place l by to seq ≡ k
  unfolding answered_at
  place_is k n =
      let f = answer-found l by to seq reply whole (found k n) in
      only (answered_place l by to seq) k (is-named _ f.below f.passes) n

  unnamed : ((k : ℕ) → Named l by to seq reply k → ⊥) → any_below (answered_at l by to seq) l.count ≡ false
  unfolding answered_at
  unnamed none = any-nowhere (answered_at l by to seq) l.count (λ i h. no_true (λ e. none i (is-named i h e)))

  -- the leg that is named, as the reply leaves it
  pub reached : (k : ℕ) → Named l by to seq reply k → leg_at (answer_of l by to seq reply).ledger k ≡ answered reply (leg_at l k)
  reached k n = rw (← place_is k n) (answer_at l by to seq reply whole (found k n))

  -- no leg is closed by a NAK that says wait
  still_open : reply ≡ Nak 2 13 → (i : ℕ) → is_open (leg_at (answer_of l by to seq reply).ledger i).standing ≡ is_open (leg_at l i).standing
  unfolding answer_of
  still_open w i = go (answer_refusal l by to seq) refl
    where
      go : (n : ℕ) → answer_refusal l by to seq ≡ n → is_open (leg_at (answer_of l by to seq reply).ledger i).standing ≡ is_open (leg_at l i).standing
      go (suc n) e = ap (λ (m : Ledger). is_open (leg_at m i).standing) (refused _ l _ (λ z. omega arith))
      go zero z = at (ℕ_discrete i (answered_place l by to seq))
        where
          at : Dec (i ≡ answered_place l by to seq) → is_open (leg_at (answer_of l by to seq reply).ledger i).standing ≡ is_open (leg_at l i).standing
          at (no ne) = ap (λ (g : Leg). is_open g.standing) (answer-other l by to seq reply whole z i ne)
          at (yes q) =
              rw q
              (ap (λ (g : Leg). is_open g.standing) (answer_at l by to seq reply whole z)
              ∙ ap (λ (r : Reply). is_open (answered r (leg_at l (answered_place l by to seq))).standing) w
              ∙ marked (leg_at l (answered_place l by to seq)) ∙ sym (answer-open l by to seq reply whole z))

  answers : Answers l by to seq reply
  unfolding answer_of answer_refusal with_leg settled standing_for waits
  answers =
      record {
        only_one = only;
        taken = found;
        acknowledged = λ k n e. reached k n ∙ ap (λ (r : Reply). answered r (leg_at l k)) e ∙ settles Ack refl (leg_at l k);
        refused = λ k set code n e other. reached k n ∙ ap (λ (r : Reply). answered r (leg_at l k)) e ∙ settles (Nak set code) (no-wait set code other) (leg_at l k);
        waiting = λ k n e. reached k n ∙ ap (λ (r : Reply). answered r (leg_at l k)) e ∙ waits-on (leg_at l k);
        closes_none = still_open;
        others = λ k j n ne. answer-other l by to seq reply whole (found k n) j (λ e. ne (e ∙ place_is k n));
        count = either_way (λ (m : Ledger). m.count) (answer_refusal l by to seq) refl;
        none = (λ e k n. let z = found k n in omega (arith, z, e), λ none. rw (rules, unnamed none));
      }

pub answer-closes : AnswerCloses
answer-closes = answers

-- a tick of a ledger that keeps its rules
module _ (l : Ledger) (whole : Whole l) (rules : obeys l ≡ true) where
  tick-taken : tick_refusal l ≡ 0
  unfolding tick_refusal
  tick-taken = rw rules

  -- a leg that is right times out exactly if it was open and is no more
  ends : (g : Leg) → leg_obeys g ≡ true → times_out g ≡ (is_open g.standing && not (is_open (ticked_leg g).standing))
  unfolding times_out ticked_leg is_open
  ends g h = go (is_open g.standing) refl (leb g.ticks 1)
    where
      go : (x : Bool) → is_open g.standing ≡ x → (y : Bool)
          → (x && y) ≡ (x && not (is_open (cond x (cond y (with_standing g 0 TimedOut) (with_standing g (g.ticks - 1) g.standing)) g).standing))
      go true e true = refl
      go true e false = rw e
      go false e y = refl

  ticks : Ticks l
  unfolding tick_of ticked_ledger
  ticks =
      record {
        each = tick-at l whole tick-taken;
        others = tick-past l whole tick-taken;
        count = either_way (λ (m : Ledger). m.count) (tick_refusal l) refl;
        ended = taken _ _ tick-taken;
        closed = λ i h. rw (tick-at l whole tick-taken i h) (ends (leg_at l i) ((obedient l rules).each i h));
      }

pub tick-counts : TickCounts
tick-counts = ticks

-- a clear that is not refused
pub clear-removes : ClearRemoves
unfolding clear_of
clear-removes l place whole z =
    record {
      before = clear-before l place whole z;
      moved = clear-moved l place whole z;
      last = clear-last l place whole z;
      others = clear-past l place whole z;
      count = clear-count l place whole z;
    }

-- 65 exactly if no settled leg stands there
pub clear_refuses : ClearRefuses
unfolding clear_of clear_refusal settled_at
clear_refuses l place rules = rw rules (go (ltb place l.count) refl (is_open (leg_at l place).standing) refl)
  where
    go : (b : Bool) → ltb place l.count ≡ b → (c : Bool) → is_open (leg_at l place).standing ≡ c → (refuse 65 (not (b && not c)) 0 ≡ 65) ↔ (Settled l place → ⊥)
    go false p c q = (λ e w. both_ways (lt-ltb place l.count w.counts) p, λ n. refl)
    go true p true q = (λ e w. both_ways q w.settled, λ n. refl)
    go true p false q = (λ e. absurd (omega arith), λ n. absurd (n (record { counts = ltb-true place l.count p; settled = q })))

-- a table, a destination and an arrival port in range have a choice that is neither 50 nor 51
chosen : (t : Table) (d : Address) (arrival : Port) → table_in_range t ≡ true → in_range d ≡ true → arrival.0 ≤ 63 → among (choice_refusal (choose_of t d arrival)) (0 ∷ 52 ∷ []) ≡ true
unfolding choose_of call_in_range out_choice
chosen t d arrival a b c = rw (a, b, le-leb arrival.0 63 c) (go (is_own t d) (has_route t d arrival))
  where
    go : (x y : Bool) → among (choice_refusal (cond x (Local d.port) (cond y (Out (out_port t d arrival)) (Refused 52)))) (0 ∷ 52 ∷ []) ≡ true
    go true y = refl
    go false true = refl
    go false false = refl

-- an accept that is not refused, of a message that asks for an acknowledgement
pub accept_adds : AcceptAdds
unfolding accept_of leg_for_at leg_for
accept_adds l f arrival t ticks whole z asked =
    record {
      before = accept-before l f arrival t ticks whole z asked;
      undeliverable = λ i h e. accept-new l f arrival t ticks whole z asked i h ∙ ap (λ (c : Choice). leg i (is_unrouted c)) e;
      opened = λ i h n. accept-new l f arrival t ticks whole z asked i h ∙ ap (leg i) (routed-is i h n);
      others = accept-past l f arrival t ticks whole z asked;
      count = accept-count l f arrival t ticks whole z asked;
      added = accept-refusal l f arrival t ticks whole z asked;
      routed = routed;
    }
  where
    d : ℕ → Address
    d = destination_at (drop destinations_offset f)

    leg : ℕ → Bool → Leg
    leg i b =
        cond b
        (record { source = (fields_of f).source; destination = destination_at (drop destinations_offset f) i; seq = (fields_of f).seq; ticks = 0; standing = Undeliverable })
        (record { source = (fields_of f).source; destination = destination_at (drop destinations_offset f) i; seq = (fields_of f).seq; ticks = ticks; standing = Open })

    routed : (i : ℕ) → i < (fields_of f).count → among (choice_refusal (choose_of t (destination_at (drop destinations_offset f) i) arrival)) (0 ∷ 52 ∷ []) ≡ true
    routed i h =
        let c = accept-call l f arrival t ticks whole z in
        chosen t (destination_at (drop destinations_offset f) i) arrival c.table ((in_order l f arrival t ticks whole z).destination-in i h) c.port

    -- a choice of 52 is the refusal itself
    only-52 : (c : Choice) → (c ≡ Refused 52 → ⊥) → is_unrouted c ≡ false
    only-52 (Local p) n = refl
    only-52 (Out p) n = refl
    only-52 (Refused k) n = ne_eqb k 52 (λ e. n (ap Refused e))

    routed-is : (i : ℕ) → i < (fields_of f).count → (choose_of t (destination_at (drop destinations_offset f) i) arrival ≡ Refused 52 → ⊥) → is_unrouted (choose_of t (destination_at (drop destinations_offset f) i) arrival) ≡ false
    routed-is i h n = only-52 _ n
