-- A leg that is not open rests: no event changes it any more, and an open one never comes to be undeliverable.
use Prim.Native.Nat.{◌-◌}
use mathlib.Core.Path.{◌≡◌, refl, sym, ap, ◌∙◌}
use mathlib.Core.Bool.{Bool, true, false, cond}
use mathlib.Core.List.{List, [], ◌∷◌, ◌++◌, append-nil}
use lib.Dec.{leb}
use lib.Seq.{append_snoc}
use Rattle.lists.proofs.Bools.{both_ways}
use Rattle.ledger.specs.declared.Standing.{Standing}
use Rattle.ledger.specs.declared.Standing.TheVariants.{Open, Acknowledged, Refused, Undeliverable, TimedOut, Waiting}
use Rattle.ledger.specs.declared.Leg.{Leg}
use Rattle.ledger.specs.Rules.{with_standing, is_open}
use Rattle.ledger_answer.specs.declared.Reply.{Reply}
use Rattle.ledger_answer.specs.declared.Reply.TheVariants.{Ack, Nak}
use Rattle.ledger_answer.specs.Answer.{standing_for, waits}
use Rattle.ledger_history.specs.Account.{Event, replied, ticked, open_after, leg_after}
use Rattle.ledger_history.proofs.Reading.{closed-rests, waiting-open, after_more}

-- ---- what is closed stays so

event-rests : (g : Leg) (es : List Event) (e : Event) → is_open (leg_after g es).standing ≡ false → leg_after g (es ++ (e ∷ [])) ≡ leg_after g es
event-rests g es e h = after_more g es e ∙ closed-rests e (leg_after g es) h

pub closed-stays : (g : Leg) (es more : List Event) → is_open (leg_after g es).standing ≡ false → is_open (leg_after g (es ++ more)).standing ≡ false
closed-stays g es [] h = ap (λ (xs : List Event). is_open (leg_after g xs).standing) (append-nil es) ∙ h
closed-stays g es (e ∷ more) h =
    ap (λ (xs : List Event). is_open (leg_after g xs).standing) (sym (append_snoc es e more))
    ∙ closed-stays g (es ++ (e ∷ [])) more (ap (λ (x : Leg). is_open x.standing) (event-rests g es e h) ∙ h)

-- ---- undeliverable

unfoldable is_undeliverable : Standing → Bool
is_undeliverable Open = false
is_undeliverable Acknowledged = false
is_undeliverable (Refused set code) = false
is_undeliverable Undeliverable = true
is_undeliverable TimedOut = false
is_undeliverable Waiting = false

open-delivered : (s : Standing) → is_open s ≡ true → is_undeliverable s ≡ false
unfolding is_open is_undeliverable
open-delivered Open h = refl
open-delivered Acknowledged h = refl
open-delivered (Refused set code) h = refl
open-delivered Undeliverable h = absurd (both_ways h refl)
open-delivered TimedOut h = refl
open-delivered Waiting h = refl

reply-delivered : (r : Reply) → is_undeliverable (standing_for r) ≡ false
unfolding is_undeliverable standing_for
reply-delivered Ack = refl
reply-delivered (Nak set code) = refl

after-delivered : (g : Leg) → is_open g.standing ≡ true → (es : List Event) → is_undeliverable (open_after g es).standing ≡ false
unfolding open_after is_undeliverable
after-delivered g o [] = open-delivered g.standing o
after-delivered g o (replied q ∷ es) = go (after-delivered (with_standing g g.ticks Waiting) waiting-open es) (waits q)
  where
    w : Leg
    w = open_after (with_standing g g.ticks Waiting) es

    go : is_undeliverable w.standing ≡ false → (b : Bool) → is_undeliverable (cond b w (with_standing g 0 (standing_for q))).standing ≡ false
    go ih true = ih
    go ih false = reply-delivered q
after-delivered g o (ticked ∷ es) = go (after-delivered (with_standing g (g.ticks - 1) g.standing) o es) (leb g.ticks 1)
  where
    w : Leg
    w = open_after (with_standing g (g.ticks - 1) g.standing) es

    go : is_undeliverable w.standing ≡ false → (b : Bool) → is_undeliverable (cond b (with_standing g 0 TimedOut) w).standing ≡ false
    go ih true = refl
    go ih false = ih

pub undeliverable-closed : is_open Undeliverable ≡ false
unfolding is_open
undeliverable-closed = refl

-- a leg that reads as undeliverable is open after no events at all
pub undeliverable-never : (g : Leg) (es : List Event) → (leg_after g es).standing ≡ Undeliverable → (es' : List Event) → is_open (leg_after g es').standing ≡ false
unfolding leg_after is_undeliverable
undeliverable-never g es u es' = go (is_open g.standing) refl
  where
    go : (b : Bool) → is_open g.standing ≡ b → is_open (leg_after g es').standing ≡ false
    go true o = absurd (both_ways (ap is_undeliverable u) (ap (λ (b : Bool). is_undeliverable (cond b (open_after g es) g).standing) o ∙ after-delivered g o es))
    go false o = ap (λ (b : Bool). is_open (cond b (open_after g es') g).standing) o ∙ o
