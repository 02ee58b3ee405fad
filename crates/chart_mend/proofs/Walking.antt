-- The walk that keeps and drops, turn by turn: each field's number, where the walk goes on, and what the field comes to.
use Prim.Native.Nat.{ℕ, suc, zero, ◌+◌, ◌<◌, ◌≤◌}
use mathlib.Core.Path.{◌≡◌, refl, sym, ap, subst, ◌∙◌}
use mathlib.Core.List.{List, [], ◌∷◌, ◌++◌}
use mathlib.Core.Bool.{Bool, true, false, cond}
use native.Mathlib.Omega.{arith}
use lib.ListN.{length}
use lib.Dec.{leb, ltb, eqb}
use borrow.Author.Tests.{lt-leb, le-leb, leb-true, leb-false, ltb-true, ltb-false, eqb-true, eqb-false, eq-eqb}
use Rattle.lists.specs.Refusals.{unless_refused}
use Rattle.lists.proofs.Refusals.{taken, refused}
use Rattle.lists.proofs.Bools.{both-same}
use Rattle.buffer.specs.Bytes.{word_bytes}
use Rattle.chart_read.specs.Fields.{past_field, cut_short}
use Rattle.chart_read.specs.Reading.{SoFar, nothing, refusing, field_refusal}
use Rattle.chart_read.specs.Private.{field_end}
use Rattle.chart_read.proofs.Walking.{held_past}
use Rattle.chart_read.proofs.Given.{cut-only}
use Rattle.chart_read.proofs.Laws.{field_cut}
use Rattle.chart_mend.specs.Mending.{Seen, next_place, held_after, seen_at, fields_from, held_from, fields_of, held_of, kept_of, entry_of}
use Rattle.chart_mend.proofs.Fields.{between}

-- the number of the field at a place after what is held
abbrev pub refusal_at : SoFar → List ℕ → ℕ → ℕ
refusal_at s bytes at = field_refusal (refusing s) bytes at

-- one turn, and the end
module _ (fuel : ℕ) (s : SoFar) (bytes : List ℕ) (at : ℕ) where
  pub fields-turn : at < length bytes
      → fields_from (suc fuel) s bytes at
      ≡ seen_at (refusal_at s bytes at) bytes at ∷ fields_from fuel (held_after (refusal_at s bytes at) s bytes at) bytes (next_place (refusal_at s bytes at) bytes at)
  unfolding fields_from
  fields-turn h = rw (lt-leb (length bytes) at h)

  pub held-turn : at < length bytes
      → held_from (suc fuel) s bytes at ≡ held_from fuel (held_after (refusal_at s bytes at) s bytes at) bytes (next_place (refusal_at s bytes at) bytes at)
  unfolding held_from
  held-turn h = rw (lt-leb (length bytes) at h)

pub fields-end : (fuel : ℕ) (s : SoFar) (bytes : List ℕ) (at : ℕ) → length bytes ≤ at → fields_from fuel s bytes at ≡ []
unfolding fields_from
fields-end zero s bytes at h = refl
fields-end (suc k) s bytes at h = rw (le-leb (length bytes) at h)

pub held-end : (fuel : ℕ) (s : SoFar) (bytes : List ℕ) (at : ℕ) → length bytes ≤ at → held_from fuel s bytes at ≡ s
unfolding held_from
held-end zero s bytes at h = refl
held-end (suc k) s bytes at h = rw (le-leb (length bytes) at h)

-- where the walk goes on: after the field, within the input
pub record Onward (bytes : List ℕ) (at next : ℕ) : Type 0 where
  pub on : at < next
  pub within : next ≤ length bytes

pub onward : (s : SoFar) (bytes : List ℕ) (at : ℕ) → at < length bytes → Onward bytes at (next_place (refusal_at s bytes at) bytes at)
unfolding next_place
onward s bytes at h = by (eqb (refusal_at s bytes at) 21) refl
  where
    by : (t : Bool) → eqb (refusal_at s bytes at) 21 ≡ t → Onward bytes at (cond t (length bytes) (past_field bytes at))
    by true e = record { on = h; within = omega arith }
    by false e = fits (ltb (length bytes) (past_field bytes at)) refl
      where
        fits : (u : Bool) → ltb (length bytes) (past_field bytes at) ≡ u → Onward bytes at (past_field bytes at)
        fits true c = absurd (eqb-false _ _ e (sym (field_cut (refusing s) bytes at (ltb-true _ _ c))))
        fits false c = record { on = omega arith; within = ltb-false _ _ c }

-- the walk from a place on as it goes: to its fields, and to what is then held
module _ (bytes : List ℕ) where
  pub data Goes : SoFar → ℕ → List Seen → SoFar → Type 0 where
    ends : {s : SoFar} {at : ℕ} → length bytes ≤ at → Goes s at [] s
    keeps : {s t : SoFar} {at : ℕ} {fs : List Seen} → at < length bytes → refusal_at s bytes at ≡ 0 → Goes (held_past s bytes at) (past_field bytes at) fs t
        → Goes s at (seen_at 0 bytes at ∷ fs) t
    drops : {s t : SoFar} {at : ℕ} {fs : List Seen} (n : ℕ) → at < length bytes → refusal_at s bytes at ≡ suc n → Onward bytes at (next_place (suc n) bytes at)
        → Goes s (next_place (suc n) bytes at) fs t → Goes s at (seen_at (suc n) bytes at ∷ fs) t

  turned : (s t : SoFar) (at : ℕ) (fs : List Seen) → at < length bytes → (k : ℕ) → refusal_at s bytes at ≡ k
      → Onward bytes at (next_place k bytes at) → Goes (held_after k s bytes at) (next_place k bytes at) fs t → Goes s at (seen_at k bytes at ∷ fs) t
  unfolding held_after next_place unless_refused
  turned s t at fs h zero e o g = keeps h e g
  turned s t at fs h (suc n) e o g = drops n h e o g

  pub goes : (fuel : ℕ) (s : SoFar) (at : ℕ) → length bytes ≤ at + fuel → Goes s at (fields_from fuel s bytes at) (held_from fuel s bytes at)
  goes zero s at h = rw (fields-end zero s bytes at (omega arith), held-end zero s bytes at (omega arith)) (ends {at = at} (omega arith))
  goes (suc fuel) s at h =
      by (leb (length bytes) at) refl (goes fuel (held_after (refusal_at s bytes at) s bytes at) (next_place (refusal_at s bytes at) bytes at))
    where
      k : ℕ
      k = refusal_at s bytes at

      by : (t : Bool) → leb (length bytes) at ≡ t
          → (length bytes ≤ next_place k bytes at + fuel
          → let s' = held_after k s bytes at in
          let next = next_place k bytes at in
          Goes s' next (fields_from fuel s' bytes next) (held_from fuel s' bytes next))
          → Goes s at (fields_from (suc fuel) s bytes at) (held_from (suc fuel) s bytes at)
      by true e go =
          let l = leb-true _ _ e in
          rw (fields-end (suc fuel) s bytes at l, held-end (suc fuel) s bytes at l) (ends l)
      by false e go =
          let l = leb-false _ _ e in
          let o = onward s bytes at l in
          rw (fields-turn fuel s bytes at l, held-turn fuel s bytes at l)
          (turned s _ at _ l k refl o (go (omega (arith, o.on))))

pub goes-all : (bytes : List ℕ) → Goes bytes nothing 0 (fields_of bytes) (held_of bytes)
unfolding fields_of held_of
goes-all bytes = goes bytes (length bytes) nothing 0 (omega arith)

-- one turn of it, and its end
module _ (bytes : List ℕ) where
  abbrev Turned : SoFar → ℕ → List Seen → SoFar → ℕ → Type 0
  Turned s at fs t k = (rest : List Seen) × (fs ≡ seen_at k bytes at ∷ rest) × Goes bytes (held_after k s bytes at) (next_place k bytes at) rest t

  pub turn_on : {s t : SoFar} {at : ℕ} {fs : List Seen} → Goes bytes s at fs t → at < length bytes → (k : ℕ) → refusal_at s bytes at ≡ k → Turned s at fs t k
  unfolding held_after next_place unless_refused
  turn_on (ends h) l k q = absurd (omega arith)
  turn_on (keeps {s} {t} {at} {fs} h e g) l k q = subst (Turned s at (seen_at 0 bytes at ∷ fs) t) (sym e ∙ q) (fs, refl, g)
  turn_on (drops {s} {t} {at} {fs} n h e o g) l k q = subst (Turned s at (seen_at (suc n) bytes at ∷ fs) t) (sym e ∙ q) (fs, refl, g)

  pub over : {s t : SoFar} {at : ℕ} {fs : List Seen} → Goes bytes s at fs t → length bytes ≤ at → (fs ≡ []) × (s ≡ t)
  over (ends h) l = (refl, refl)
  over (keeps h e g) l = absurd (omega arith)
  over (drops n h e o g) l = absurd (omega arith)

-- where it goes on is the field's end: its number is 21 exactly where it is cut short
pub next-is-end : (s : SoFar) (bytes : List ℕ) (at : ℕ) → field_end bytes at ≡ next_place (refusal_at s bytes at) bytes at
unfolding field_end next_place
next-is-end s bytes at =
    ap (λ (t : Bool). cond t (length bytes) (past_field bytes at))
    (both-same (cut_short bytes at) (eqb (refusal_at s bytes at) 21)
    (λ h. eq-eqb _ 21 (sym (field_cut (refusing s) bytes at (ltb-true _ _ h))))
    (λ h. cut-only s bytes at (eqb-true _ 21 h)))

-- ---- what a field comes to, by its number

module _ (bytes : List ℕ) (at : ℕ) where
  module _ (k : ℕ) (z : k ≡ 0) where
    pub kept-bytes : kept_of (seen_at k bytes at) ≡ between bytes at (next_place k bytes at)
    unfolding kept_of seen_at
    kept-bytes = taken _ _ z

    pub kept_entry : entry_of (seen_at k bytes at) ≡ []
    unfolding entry_of seen_at
    kept_entry = taken _ _ z

  module _ (k : ℕ) (z : k ≡ 0 → ⊥) where
    pub dropped-bytes : kept_of (seen_at k bytes at) ≡ []
    unfolding kept_of seen_at
    dropped-bytes = refused _ _ k z

    pub dropped-entry : entry_of (seen_at k bytes at) ≡ word_bytes at ++ (k ∷ [])
    unfolding entry_of seen_at
    dropped-entry = refused _ _ k z

  -- a field has three bytes, or is the last
  pub three-or-last : (k : ℕ) → next_place k bytes at < length bytes → at + 3 ≤ next_place k bytes at
  unfolding next_place
  three-or-last k = by (eqb k 21)
    where
      by : (x : Bool) → cond x (length bytes) (past_field bytes at) < length bytes → at + 3 ≤ cond x (length bytes) (past_field bytes at)
      by true h = absurd (omega arith)
      by false h = omega arith
