-- How a line reads with one event more: as it read before, with what that event does to the leg.
use Prim.Native.Nat.{ℕ, ◌-◌}
use mathlib.Core.Path.{◌≡◌, refl, sym, ap, ◌∙◌}
use mathlib.Core.Bool.{Bool, true, false, cond, ◌&&◌}
use mathlib.Core.List.{List, [], ◌∷◌, ◌++◌}
use lib.Dec.{eqb, leb}
use Rattle.address.specs.declared.Seq.{Seq}
use Rattle.address.specs.declared.Address.{Address}
use Rattle.address.specs.Address.{same_address}
use Rattle.ledger.specs.declared.Standing.{Standing}
use Rattle.ledger.specs.declared.Standing.TheVariants.{TimedOut, Waiting}
use Rattle.ledger.specs.declared.Leg.{Leg}
use Rattle.ledger.specs.Rules.{with_standing, is_open, is_open_leg}
use Rattle.ledger_answer.specs.declared.Reply.{Reply}
use Rattle.ledger_answer.specs.Answer.{standing_for, settled, waits, answered}
use Rattle.ledger_tick.specs.Tick.{ticked_leg}
use Rattle.ledger_laws.proofs.Keeps.{reply-settles}
use Rattle.ledger_history.specs.Account.{Event, replied, ticked, Line, new_line, noted, is_for, noted_if_for, open_after, leg_after, as_read}

-- ---- what an event does to a leg that it reaches

unfoldable pub after_event : Event → Leg → Leg
after_event (replied r) g = cond (is_open g.standing) (answered r g) g
after_event ticked g = ticked_leg g

pub closed-rests : (e : Event) (g : Leg) → is_open g.standing ≡ false → after_event e g ≡ g
unfolding after_event ticked_leg
closed-rests (replied r) g h = rw h
closed-rests ticked g h = rw h

pub waiting-open : is_open Waiting ≡ true
unfolding is_open
waiting-open = refl

timed-out-closed : is_open TimedOut ≡ false
unfolding is_open
timed-out-closed = refl

-- ---- one event more

open_more : (g : Leg) → is_open g.standing ≡ true → (es : List Event) (e : Event) → open_after g (es ++ (e ∷ [])) ≡ after_event e (open_after g es)
unfolding open_after after_event answered settled ticked_leg
open_more g o [] (replied r) = rw o
open_more g o [] ticked = rw o
open_more g o (replied q ∷ es) e = go (open_more (with_standing g g.ticks Waiting) waiting-open es e) (waits q)
  where
    w : Leg
    w = with_standing g g.ticks Waiting

    s : Leg
    s = with_standing g 0 (standing_for q)

    go : open_after w (es ++ (e ∷ [])) ≡ after_event e (open_after w es) → (b : Bool) → cond b (open_after w (es ++ (e ∷ []))) s ≡ after_event e (cond b (open_after w es) s)
    go ih true = ih
    go ih false = sym (closed-rests e s (reply-settles q))
open_more g o (ticked ∷ es) e = go (open_more (with_standing g (g.ticks - 1) g.standing) o es e) (leb g.ticks 1)
  where
    w : Leg
    w = with_standing g (g.ticks - 1) g.standing

    s : Leg
    s = with_standing g 0 TimedOut

    go : open_after w (es ++ (e ∷ [])) ≡ after_event e (open_after w es) → (b : Bool) → cond b s (open_after w (es ++ (e ∷ []))) ≡ after_event e (cond b s (open_after w es))
    go ih true = sym (closed-rests e s timed-out-closed)
    go ih false = ih

pub after_more : (g : Leg) (es : List Event) (e : Event) → leg_after g (es ++ (e ∷ [])) ≡ after_event e (leg_after g es)
unfolding leg_after
after_more g es e = go (is_open g.standing) refl
  where
    go : (b : Bool) → is_open g.standing ≡ b → cond b (open_after g (es ++ (e ∷ []))) g ≡ after_event e (cond b (open_after g es) g)
    go true o = open_more g o es e
    go false o = sym (closed-rests e g o)

-- ---- what is written on a line

-- on one that is struck out nothing, on any other the event; the stroke stays
module _ (e : Event) (x : Line) where
  pub noted-left : x.struck ≡ true → noted e x ≡ x
  unfolding noted
  noted-left h = ap (λ (b : Bool). cond {A = Line} b x (record { leg = x.leg; events = x.events ++ (e ∷ []); struck = false })) h

  noted-reads : x.struck ≡ false → as_read (noted e x) ≡ after_event e (as_read x)
  unfolding as_read noted
  noted-reads h = rw h (after_more x.leg x.events e)

  pub noted-stroke : (noted e x).struck ≡ x.struck
  unfolding noted
  noted-stroke = go x.struck refl
    where
      go : (b : Bool) → x.struck ≡ b → (cond b x (record { leg = x.leg; events = x.events ++ (e ∷ []); struck = false })).struck ≡ x.struck
      go true h = refl
      go false h = rw h

pub tick-reads : (x : Line) → x.struck ≡ false → as_read (noted ticked x) ≡ ticked_leg (as_read x)
unfolding after_event
tick-reads x h = noted-reads ticked x h

-- a line reads as the leg was accepted, before any event
pub new-reads : (g : Leg) → as_read (new_line g) ≡ g
unfolding as_read new_line leg_after open_after
new-reads g = go (is_open g.standing)
  where
    go : (b : Bool) → cond {A = Leg} b g g ≡ g
    go true = refl
    go false = refl

-- ---- whose an answer is

-- no event changes what of a leg is not its ticks or its standing
module _ {A : Type 0} (field : Leg → A) (same : (g : Leg) (ticks : ℕ) (s : Standing) → field (with_standing g ticks s) ≡ field g) where
  open-field : (g : Leg) (es : List Event) → field (open_after g es) ≡ field g
  unfolding open_after
  open-field g [] = refl
  open-field g (replied q ∷ es) = go (open-field (with_standing g g.ticks Waiting) es ∙ same g g.ticks Waiting) (waits q)
    where
      w : Leg
      w = open_after (with_standing g g.ticks Waiting) es

      go : field w ≡ field g → (b : Bool) → field (cond b w (with_standing g 0 (standing_for q))) ≡ field g
      go ih true = ih
      go ih false = same g 0 (standing_for q)
  open-field g (ticked ∷ es) = go (open-field (with_standing g (g.ticks - 1) g.standing) es ∙ same g (g.ticks - 1) g.standing) (leb g.ticks 1)
    where
      w : Leg
      w = open_after (with_standing g (g.ticks - 1) g.standing) es

      go : field w ≡ field g → (b : Bool) → field (cond b (with_standing g 0 TimedOut) w) ≡ field g
      go ih true = same g 0 TimedOut
      go ih false = ih

  after-field : (g : Leg) (es : List Event) → field (leg_after g es) ≡ field g
  unfolding leg_after
  after-field g es = go (is_open g.standing)
    where
      go : (b : Bool) → field (cond b (open_after g es) g) ≡ field g
      go true = open-field g es
      go false = refl

module _ (by to : Address) (seq : Seq) (reply : Reply) where
  for_after : (x : Line) → is_for by to seq (as_read x) ≡ is_for by to seq x.leg
  unfolding is_for as_read
  for_after x = after-field (is_for by to seq) (λ g ticks s. refl) x.leg x.events

  open-for-it : (g : Leg) → is_open_leg to by seq g ≡ (is_open g.standing && is_for by to seq g)
  unfolding is_open_leg is_for
  open-for-it g = go (is_open g.standing)
    where
      go : (b : Bool) → (b && same_address g.source to && same_address g.destination by && eqb g.seq.0 seq.0)
          ≡ (b && (same_address g.source to && same_address g.destination by && eqb g.seq.0 seq.0))
      go true = refl
      go false = refl

  -- the leg, answered if it is the open one that the answer names
  unfoldable pub answered_if : Leg → Leg
  answered_if g = cond (is_open_leg to by seq g) (answered reply g) g

  event-for : (g : Leg) (b : Bool) → is_for by to seq g ≡ b → cond b (after_event (replied reply) g) g ≡ answered_if g
  unfolding after_event answered_if
  event-for g b e = rw (open-for-it g, e) (go b (is_open g.standing))
    where
      go : (b c : Bool) → cond b (cond c (answered reply g) g) g ≡ cond (c && b) (answered reply g) g
      go true true = refl
      go true false = refl
      go false true = refl
      go false false = refl

  pub answer-reads : (x : Line) → x.struck ≡ false → as_read (noted_if_for by to seq reply x) ≡ answered_if (as_read x)
  unfolding noted_if_for
  answer-reads x h = go (is_for by to seq x.leg) refl
    where
      go : (b : Bool) → is_for by to seq x.leg ≡ b → as_read (cond b (noted (replied reply) x) x) ≡ answered_if (as_read x)
      go true e = noted-reads (replied reply) x h ∙ event-for (as_read x) true (for_after x ∙ e)
      go false e = event-for (as_read x) false (for_after x ∙ e)
