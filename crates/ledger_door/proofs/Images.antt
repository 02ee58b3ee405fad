-- The image after each call holds the ledger after it: what is written back can be read, and past the legs that count there is none.
use Prim.Native.Nat.{ℕ, zero, suc, ◌+◌, ◌-◌, ◌≤◌, ◌<◌}
use mathlib.Core.Path.{◌≡◌, refl, sym, ap, subst, ◌∙◌}
use mathlib.Core.Bool.{Bool, true, false, not, ◌||◌, cond}
use mathlib.Core.List.{List}
use native.Mathlib.Nat.{min-eq_left}
use native.Mathlib.Omega.{arith}
use native.Mathlib.Decide.{dec_lt, ℕ_discrete}
use lib.ListN.{length, drop}
use lib.Seq.{ext_get_or}
use lib.Dec.{ltb}
use Rattle.lists.specs.Places.{any_below, element_at, row}
use Rattle.lists.proofs.Places.{row_at, row-past, length-row}
use Rattle.lists.proofs.Refusals.{pass, or-pass, taken, refused}
use Rattle.address.specs.Address.{largest_port}
use Rattle.envelope.specs.Frame.{destinations_offset, fields_of, destination_at}
use Rattle.envelope.specs.Refusal.{stray_at, frame_refusal}
use Rattle.table.specs.Table.{table_in_range}
use Rattle.table_image.specs.Table.{table_of}
use Rattle.ledger.specs.declared.Leg.{Leg}
use Rattle.ledger.specs.declared.Ledger.{Ledger}
use Rattle.ledger.specs.Rules.{no_leg, leg_at, obeys}
use Rattle.ledger.proofs.Laws.{obedient}
use Rattle.ledger_answer.specs.Answer.{answer_of}
use Rattle.ledger_tick.specs.Tick.{tick_of}
use Rattle.ledger_clear.specs.Clear.{clear_of}
use Rattle.ledger_accept.specs.Accept.{accept_of}
use Rattle.ledger_laws.specs.Calls.{Call, accepting, answering, ticking, clearing, refusal_of, after}
use Rattle.ledger_laws.specs.Promises.{Whole, broken_refusal}
use Rattle.ledger_laws.proofs.Places.{answer-found, answer-other, accept-quiet-after}
use Rattle.ledger_laws.proofs.Promises.{as_was, places-kept, rules_kept, rules-broken, answer-closes, tick-counts, clear-removes, accept_adds}
use Rattle.ledger_image.specs.Ledger.{leg_count, leg_held, readable_ledger, ledger_in, broken_ledger, ledger_of, with_ledger, ledger_after}
use Rattle.ledger_image.proofs.LedgerLaws.{readable}
use Rattle.ledger_image.proofs.LedgerUndo.{ledger-undo}
use Rattle.ledger_door.specs.Calls.{pz_answer, pz_answer_image, pz_tick, pz_tick_image, pz_clear, pz_clear_image, pz_accept, pz_accept_image}
use Rattle.ledger_door.specs.Promises.{ImagesFollow}

-- a ledger with 128 places, and no leg past those that count
record Bare (l : Ledger) : Type 0 where
  whole : Whole l
  past : (i : ℕ) → l.count ≤ i → leg_at l i ≡ no_leg

-- ---- the ledger of an image is bare

row-bare : (d : ℕ → Leg) (n i : ℕ) → n ≤ i → element_at no_leg (row 128 no_leg d n) i ≡ no_leg
row-bare d n i h =
    let q : n + (i - n) ≡ i = omega arith in
    subst (λ (j : ℕ). element_at no_leg (row 128 no_leg d n) j ≡ no_leg) q (row-past 128 no_leg d n (i - n))

read-in : (b : List ℕ) → readable_ledger b ≡ true → ledger_of b ≡ ledger_in b
unfolding ledger_of
read-in b e = rw e

in-bare : (b : List ℕ) → leg_count b ≤ 128 → Bare (ledger_in b)
unfolding ledger_in leg_at
in-bare b h = record { whole = length-row 128 no_leg (leg_held b) (leg_count b) h; past = row-bare (leg_held b) (leg_count b) }

-- whatever the image, the ledger that it stands for has its 128 places
pub image-whole : (b : List ℕ) → Whole (ledger_of b)
unfolding ledger_of
image-whole b = go (readable_ledger b) refl
  where
    go : (r : Bool) → readable_ledger b ≡ r → Whole (cond r (ledger_in b) broken_ledger)
    go true e = (in-bare b (readable b e).few).whole
    go false e = refl

-- ---- no call writes past the legs that count

-- a ledger that breaks its rules is refused by some number
refuses : (c : Call) → broken_refusal c ≡ 0 → ⊥
unfolding broken_refusal
refuses (accepting f arrival t ticks) e =
    let a = (or-pass (frame_refusal f) _ e).1 in
    let b = (pass 49 (not (table_in_range t)) _ a).1 in
    let c = (pass 50 (ltb largest_port arrival.0 || any_below (stray_at (destination_at (drop destinations_offset f))) (fields_of f).count) 60 b).1 in
    omega arith
refuses (answering by to seq reply) e = omega arith
refuses ticking e = omega arith
refuses (clearing place) e = omega arith

-- how many legs are written back: those that counted before the call, after an accept those that count now
back : Ledger → Call → ℕ
back l (accepting f arrival t ticks) = (after l (accepting f arrival t ticks)).count
back l (answering by to seq reply) = l.count
back l ticking = l.count
back l (clearing place) = l.count

module _ (l : Ledger) (bare : Bare l) where
  -- a call that is not refused was made on a ledger that keeps its rules
  rules : (c : Call) → refusal_of l c ≡ 0 → obeys l ≡ true
  rules c z = go (obeys l) refl
    where
      go : (b : Bool) → obeys l ≡ b → b ≡ true
      go true e = refl
      go false e = absurd (refuses c (sym (rules-broken l c e) ∙ z))

  bare-after : (c : Call) → refusal_of l c ≡ 0 → (i : ℕ) → (after l c).count ≤ i → leg_at (after l c) i ≡ no_leg
  unfolding refusal_of after answer_of clear_of accept_of
  bare-after (accepting f arrival t ticks) z i h = go (fields_of f).ack refl
    where
      go : (b : Bool) → (fields_of f).ack ≡ b → leg_at (accept_of l f arrival t ticks).ledger i ≡ no_leg
      go true e =
          let a = accept_adds l f arrival t ticks bare.whole z e in
          let c : (accept_of l f arrival t ticks).ledger.count ≡ l.count + (fields_of f).count = a.count in
          a.others i (subst (λ (n : ℕ). n ≤ i) c h) ∙ bare.past i (omega (arith, c, h))
      go false e =
          let q = accept-quiet-after l f arrival t ticks bare.whole z e in
          ap (λ (m : Ledger). leg_at m i) q ∙ bare.past i (subst (λ (m : Ledger). m.count ≤ i) q h)
  bare-after (answering by to seq reply) z i h =
      let c : (answer_of l by to seq reply).ledger.count ≡ l.count = (answer-closes l by to seq reply bare.whole (rules (answering by to seq reply) z)).count in
      let below = (answer-found l by to seq reply bare.whole z).below in
      answer-other l by to seq reply bare.whole z i (λ e. omega (arith, c, h, below, e)) ∙ bare.past i (omega (arith, c, h))
  bare-after ticking z i h =
      let t = tick-counts l bare.whole (rules ticking z) in
      let c : (tick_of l).ledger.count ≡ l.count = t.count in
      let le : l.count ≤ i = omega (arith, c, h) in
      t.others i le ∙ bare.past i le
  bare-after (clearing place) z i h = go (ℕ_discrete (suc i) l.count)
    where
      go : Dec (suc i ≡ l.count) → leg_at (clear_of l place).ledger i ≡ no_leg
      go (yes e) = (clear-removes l place bare.whole z).last i e
      go (no ne) =
          let r = clear-removes l place bare.whole z in
          let c : suc (clear_of l place).ledger.count ≡ l.count = r.count in
          let le : l.count ≤ i = omega (arith, c, h, ne) in
          r.others i le ∙ bare.past i le

  -- they are enough
  back-enough : (c : Call) → refusal_of l c ≡ 0 → ((after l c).count ≤ back l c) × (back l c ≤ 128)
  unfolding refusal_of after back clear_of
  back-enough (accepting f arrival t ticks) z = (omega arith, (obedient _ (rules_kept l (accepting f arrival t ticks) bare.whole (rules (accepting f arrival t ticks) z))).few)
  back-enough (answering by to seq reply) z =
      let r = rules (answering by to seq reply) z in
      (omega (arith, (answer-closes l by to seq reply bare.whole r).count), (obedient l r).few)
  back-enough ticking z = let r = rules ticking z in (omega (arith, (tick-counts l bare.whole r).count), (obedient l r).few)
  back-enough (clearing place) z = (omega (arith, (clear-removes l place bare.whole z).count), (obedient l (rules (clearing place) z)).few)

-- ---- a bare ledger is its own row

own_row : (m : Ledger) → Bare m → m.count ≤ 128 → ◌≡◌ {A = Ledger} (record { count = m.count; legs = row 128 no_leg (leg_at m) m.count }) m
unfolding leg_at element_at
own_row m bare few = λ i. record { count = m.count; legs = legs i }
  where
    at : (i : ℕ) → Dec (i < m.count) → element_at no_leg (row 128 no_leg (leg_at m) m.count) i ≡ leg_at m i
    at i (yes h) = sym (row_at 128 no_leg (leg_at m) m.count i h)
    at i (no h) = row-bare (leg_at m) m.count i (omega arith) ∙ sym (bare.past i (omega arith))

    legs : row 128 no_leg (leg_at m) m.count ≡ m.legs
    legs =
        ext_get_or no_leg (row 128 no_leg (leg_at m) m.count) m.legs (length-row 128 no_leg (leg_at m) m.count few ∙ sym bare.whole)
        (λ i h. at i (dec_lt i m.count))

-- ---- the image after a call

-- what is written back of a ledger without a leg past those that count is read as that ledger
written_back : (b : List ℕ) (m : Ledger) (n : ℕ) → 1921 ≤ length b → m.count ≤ n → n ≤ 128 → Bare m → ledger_of (with_ledger b m n) ≡ m
written_back b m n long enough small bare =
    read-in (with_ledger b m n) (ledger-undo.readable b m n long enough small)
    ∙ ledger-undo.read b m n long enough small
    ∙ own_row m bare (omega arith)

-- an image that is not readable stands for a ledger that breaks its rules
pub broken : (b : List ℕ) → readable_ledger b ≡ false → obeys (ledger_of b) ≡ false
unfolding ledger_of obeys
broken b h = rw h

module _ (b : List ℕ) (c : Call) where
  abbrev l : Ledger
  l = ledger_of b

  taken-holds : refusal_of l c ≡ 0 → (r : Bool) → readable_ledger b ≡ r → ledger_of (ledger_after b (refusal_of l c) (after l c) (back l c)) ≡ after l c
  unfolding ledger_after
  taken-holds z true r =
      let bare = subst Bare (sym (read-in b r)) (in-bare b (readable b r).few) in
      let e = back-enough l bare c z in
      ap ledger_of (taken _ _ z ∙ ap (with_ledger b (after l c)) (min-eq_left e.1))
      ∙ written_back b (after l c) (back l c) (readable b r).long e.0 e.1
      (record { whole = places-kept l c bare.whole; past = bare-after l bare c z })
  taken-holds z false r = absurd (refuses c (sym (rules-broken l c (broken b r)) ∙ z))

  -- of any image: a refusal leaves it, and the ledger
  holds : ledger_of (ledger_after b (refusal_of l c) (after l c) (back l c)) ≡ after l c
  unfolding ledger_after
  holds = go (refusal_of l c) refl
    where
      go : (n : ℕ) → refusal_of l c ≡ n → ledger_of (ledger_after b (refusal_of l c) (after l c) (back l c)) ≡ after l c
      go zero z = taken-holds z (readable_ledger b) refl
      go (suc n) z = ap ledger_of (refused _ b _ (λ y. omega arith)) ∙ sym (as_was l c (λ y. omega arith))

pub images_follow : ImagesFollow
unfolding pz_answer pz_answer_image pz_tick pz_tick_image pz_clear pz_clear_image pz_accept pz_accept_image refusal_of after back
images_follow =
    record {
      answer = λ b by to seq reply. holds b (answering by to seq reply);
      tick = λ b. holds b ticking;
      clear = λ b place. holds b (clearing place);
      accept = λ b f arrival table ticks. holds b (accepting f arrival (table_of table) ticks);
    }
