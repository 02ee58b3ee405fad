-- A second NAK that says wait finds the leg of the first, which waits already.
use Prim.Native.Nat.{ℕ, zero, suc, ◌<◌}
use mathlib.Core.Path.{◌≡◌, refl, sym, ap, ◌∙◌}
use mathlib.Core.Bool.{true}
use native.Mathlib.Omega.{arith}
use native.Mathlib.Decide.{ℕ_discrete}
use lib.Seq.{set-get_or}
use Rattle.lists.specs.Places.{any_below, first_below, element_at}
use Rattle.lists.proofs.Places.{any-agree, any_found, first-agree}
use Rattle.address.specs.declared.Seq.{Seq}
use Rattle.address.specs.declared.Address.{Address}
use Rattle.ledger.specs.declared.Standing.TheVariants.{Waiting}
use Rattle.ledger.specs.declared.Leg.{Leg}
use Rattle.ledger.specs.declared.Ledger.{Ledger}
use Rattle.ledger.specs.Rules.{no_leg, with_standing, leg_at, is_open, is_open_leg}
use Rattle.ledger_answer.specs.declared.Reply.{Reply}
use Rattle.ledger_answer.specs.declared.Reply.TheVariants.{Nak}
use Rattle.ledger_answer.specs.Answer.{answered, with_leg, answered_at, answered_place, answer_refusal, answer_of}
use Rattle.ledger_laws.specs.Calls.{answering, refusal_of, after}
use Rattle.ledger_laws.specs.Promises.{Whole, TwiceIsOnce}
use Rattle.ledger_laws.proofs.Places.{answer-whole, answer-found, answer-after, answer_at, answer-other}
use Rattle.ledger_laws.proofs.Keeps.{answer-open, answer_keeps}
use Rattle.ledger_laws.proofs.Promises.{as_was, waits-on}

abbrev wait : Reply
wait = Nak 2 13

-- a leg that waits is found as before
waiting-found : (source destination : Address) (seq : Seq) (g : Leg) → is_open g.standing ≡ true
    → is_open_leg source destination seq (with_standing g g.ticks Waiting) ≡ is_open_leg source destination seq g
unfolding is_open_leg is_open
waiting-found source destination seq g o = rw o

own-leg : (l : Ledger) (k : ℕ) → with_leg l k (leg_at l k) ≡ l
unfolding with_leg leg_at element_at
own-leg l k = λ i. record { count = l.count; legs = set-get_or l.legs k no_leg i }

module _ (l : Ledger) (by to : Address) (seq : Seq) (whole : Whole l) (z : answer_refusal l by to seq ≡ 0) where
  abbrev m : Ledger
  m = (answer_of l by to seq wait).ledger

  abbrev k : ℕ
  k = answered_place l by to seq

  same_count : m.count ≡ l.count
  unfolding with_leg
  same_count = ap (λ (x : Ledger). x.count) (answer-after l by to seq wait whole z)

  there : leg_at m k ≡ with_standing (leg_at l k) (leg_at l k).ticks Waiting
  there = answer_at l by to seq wait whole z ∙ waits-on (leg_at l k)

  agree : (i : ℕ) → i < l.count → answered_at m by to seq i ≡ answered_at l by to seq i
  unfolding answered_at
  agree i h = go (ℕ_discrete i k)
    where
      go : Dec (i ≡ k) → is_open_leg to by seq (leg_at m i) ≡ is_open_leg to by seq (leg_at l i)
      go (yes e) = rw e (ap (is_open_leg to by seq) there ∙ waiting-found to by seq (leg_at l k) (answer-open l by to seq wait whole z))
      go (no ne) = ap (is_open_leg to by seq) (answer-other l by to seq wait whole z i ne)

  same_place : answered_place m by to seq ≡ k
  unfolding answered_place
  same_place = ap (first_below (answered_at m by to seq)) same_count ∙ first-agree (answered_at m by to seq) (answered_at l by to seq) l.count agree

  some-place : any_below (answered_at m by to seq) m.count ≡ true
  some-place =
      let f = answer-found l by to seq wait whole z in
      ap (any_below (answered_at m by to seq)) same_count
      ∙ any-agree (answered_at m by to seq) (answered_at l by to seq) l.count agree
      ∙ any_found (answered_at l by to seq) l.count k f.below f.passes

  taken-again : answer_refusal m by to seq ≡ 0
  unfolding answer_refusal
  taken-again = rw (answer_keeps l by to seq wait whole z, some-place)

  second-wait : (answer_of m by to seq wait).ledger ≡ m
  second-wait =
      answer-after m by to seq wait (answer-whole l by to seq wait whole z) taken-again
      ∙ ap (λ (n : ℕ). with_leg m n (answered wait (leg_at m n))) same_place
      ∙ ap (with_leg m k) (waits-on (leg_at m k) ∙ ap (λ (g : Leg). with_standing g g.ticks Waiting) there ∙ sym there)
      ∙ own-leg m k

pub twice-is-once : TwiceIsOnce
unfolding refusal_of after answer_of
twice-is-once l by to seq whole = go (answer_refusal l by to seq) refl
  where
    go : (n : ℕ) → answer_refusal l by to seq ≡ n → (answer_of (answer_of l by to seq wait).ledger by to seq wait).ledger ≡ (answer_of l by to seq wait).ledger
    go zero z = second-wait l by to seq whole z
    go (suc n) e = ap (λ (x : Ledger). (answer_of x by to seq wait).ledger) (as_was l (answering by to seq wait) (λ z. omega arith))
