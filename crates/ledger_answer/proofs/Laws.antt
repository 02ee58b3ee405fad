-- Laws of the call's definitions, over plain values: one for each way that the code returns.
use Prim.Native.Nat.{ℕ, ◌+◌, ◌<◌, ◌≤◌}
use mathlib.Core.Path.{◌≡◌, refl, sym, ap, ◌∙◌}
use mathlib.Core.Bool.{Bool, true, false, cond}
use native.Mathlib.Omega.{arith}
use native.Mathlib.Decide.{dec_lt}
use lib.ListN.{set}
use Rattle.lists.specs.Refusals.{unless_refused}
use Rattle.lists.specs.Places.{any_below, first_below}
use Rattle.lists.proofs.Places.{any-nowhere, any_found, first-only, first_found}
use Rattle.std.specs.Prelude.{Some, None}
use Rattle.std.proofs.lemmas.Option.{cond_some, none-some}
use Rattle.std.specs.declared.option.Option.{Option}
use Rattle.address.specs.declared.Seq.{Seq}
use Rattle.address.specs.declared.Address.{Address}
use Rattle.ledger.specs.declared.Standing.TheVariants.{Waiting}
use Rattle.ledger.specs.declared.Leg.{Leg}
use Rattle.ledger.specs.declared.Ledger.{Ledger}
use Rattle.ledger.specs.Rules.{with_standing, leg_at, obeys}
use Rattle.ledger.specs.Outcome.{Outcome}
use Rattle.ledger.proofs.Laws.{obedient}
use Rattle.ledger.proofs.Alike.{only_one}
use Rattle.ledger_answer.specs.declared.Reply.{Reply}
use Rattle.ledger_answer.specs.Answer.{settled, waits, answered, with_leg, answered_at, answered_place, answer_refusal, answer_of}

-- none from the place before on, if not there and none after
pub none-later : (p : ℕ → Bool) {i k n : ℕ} → k + 1 ≡ i → p k ≡ false → ((j : ℕ) → i ≤ j → j < n → p j ≡ false) → (j : ℕ) → k ≤ j → j < n → p j ≡ false
none-later p {i} {k} {n} e here later j h m = go (dec_lt k j)
  where
    go : Dec (k < j) → p j ≡ false
    go (yes l) = later j (omega (arith, e)) m
    go (no l) = let s : j ≡ k = omega arith in ap p s ∙ here

module _ (r : Reply) (g : Leg) where
  pub leg-waits : waits r ≡ true → {h : Leg} → h ≡ with_standing g g.ticks Waiting → h ≡ answered r g
  unfolding answered
  leg-waits a e = rw a e

  pub leg-settles : waits r ≡ false → {h : Leg} → h ≡ settled r g → h ≡ answered r g
  unfolding answered
  leg-settles a e = rw a e

-- the search from the newest end, in a ledger that obeys
module _ (l : Ledger) (by to : Address) (seq : Seq) (o : obeys l ≡ true) where
  pub newest-found : (k : ℕ) → k < l.count → answered_at l by to seq k ≡ true
      → Some k ≡ cond (any_below (answered_at l by to seq) l.count) (Some (answered_place l by to seq)) None
  unfolding answered_place answered_at
  newest-found k h e =
      let first = first-only (answered_at l by to seq) l.count k h e (λ j m q. only_one l (obedient l o) to by seq j k m h q e) in
      rw (any_found (answered_at l by to seq) l.count k h e) (ap Some (sym first))

  pub none_found : ((j : ℕ) → 0 ≤ j → j < l.count → answered_at l by to seq j ≡ false)
      → None ≡ cond (any_below (answered_at l by to seq) l.count) (Some (answered_place l by to seq)) None
  none_found none = rw (any-nowhere (answered_at l by to seq) l.count (λ j h. none j (omega arith) h))

-- the leg that the search found: some leg is named, it stands at the place, and it counts
pub record Found (l : Ledger) (by to : Address) (seq : Seq) (k : ℕ) : Type 0 where
  pub any : any_below (answered_at l by to seq) l.count ≡ true
  pub place : k ≡ answered_place l by to seq
  pub below : k < l.count

-- what the search tells
module _ (l : Ledger) (by to : Address) (seq : Seq) {r : Option ℕ} (e : r ≡ cond (any_below (answered_at l by to seq) l.count) (Some (answered_place l by to seq)) None) where
  pub found : {k : ℕ} → r ≡ Some k → Found l by to seq k
  unfolding answered_place
  found {k} s =
      let c = cond_some (any_below (answered_at l by to seq) l.count) (first_below (answered_at l by to seq) l.count) k (sym e ∙ s) in
      let f = first_found (answered_at l by to seq) l.count c.0 in
      record { any = c.0; place = sym c.1; below = omega (arith, f.below, c.1) }

  -- in a ledger that obeys there is such a place
  pub found_within : {k : ℕ} → r ≡ Some k → obeys l ≡ true → k < 128
  found_within s o = omega (arith, (found s).below, (obedient l o).few)

  pub not-found : r ≡ None → any_below (answered_at l by to seq) l.count ≡ false
  not-found s = go (any_below (answered_at l by to seq) l.count) refl
    where
      go : (b : Bool) → any_below (answered_at l by to seq) l.count ≡ b → b ≡ false
      go true b = absurd (none-some (answered_place l by to seq) (sym s ∙ e ∙ rw b))
      go false b = refl

module _ (l : Ledger) (by to : Address) (seq : Seq) (reply : Reply) where
  pub answer-60 : obeys l ≡ false → ◌≡◌ {A = Outcome} (record { refusal = 60; ledger = l }) (answer_of l by to seq reply)
  unfolding answer_of answer_refusal unless_refused
  answer-60 a = rw a

  pub answer-64 : obeys l ≡ true → any_below (answered_at l by to seq) l.count ≡ false → ◌≡◌ {A = Outcome} (record { refusal = 64; ledger = l }) (answer_of l by to seq reply)
  unfolding answer_of answer_refusal unless_refused
  answer-64 a n = rw (a, n)

  pub answer-0 : obeys l ≡ true → {k : ℕ} {h : Leg} → Found l by to seq k → h ≡ answered reply (leg_at l k)
      → ◌≡◌ {A = Outcome} (record { refusal = 0; ledger = record { count = l.count; legs = set l.legs k h } }) (answer_of l by to seq reply)
  unfolding answer_of answer_refusal unless_refused with_leg
  answer-0 a n q = rw (a, n.any, q, n.place)
