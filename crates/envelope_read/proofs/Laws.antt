-- What the readers' answers say, of a refused frame and of an accepted one.
use Prim.Native.Nat.{ℕ, zero, suc, ◌-◌, ◌<◌}
use mathlib.Core.Path.{◌≡◌, refl, sym, ap, ◌∙◌}
use mathlib.Core.List.{List}
use mathlib.Core.Bool.{Bool, true, false}
use native.Mathlib.Omega.{arith}
use lib.Dec.{ltb}
use lib.ListN.{length, get_or, take, drop}
use Rattle.buffer.specs.Bytes.{Bytes}
use Rattle.lists.specs.Places.{repeats, element_at, row}
use Rattle.lists.specs.Refusals.{refuse, unless_refused}
use Rattle.lists.proofs.Refusals.{or-refused, taken, refused}
use borrow.Author.Tests.{lt-ltb, le-ltb, eq-eqb, ne_eqb}
use Rattle.address.specs.Address.{in_range, same_address}
use Rattle.std.specs.Prelude.{Result, Ok, Err}
use Rattle.refusal.specs.declared.Fault.{Fault}
use Rattle.refusal.specs.Numbers.{AnswersAt}
use Rattle.refusal.proofs.Laws.{names}
use Rattle.envelope.specs.declared.Fixed.{Fixed}
use Rattle.envelope_read.specs.Read.{Read}
use Rattle.envelope_read.specs.Read.{Envelope, Refused}
use Rattle.envelope.specs.Frame.{destinations_offset, length_of, count_of, size_of, fields_of, destination_at, check_of}
use Rattle.envelope.specs.Refusal.{most_destinations, lowest_priority, outside, wrong_version, whole_refusal, values_refusal_by, frame_refusal}
use Rattle.envelope.specs.Place.{destination_place, first_twin, place_beside, frame_place}
use Rattle.envelope_read.specs.Read.{read_answer, zero_fields, read_refusal, read_place, read_fields, read_frame_of}
use Rattle.envelope_read.specs.Private.{value_place}
use Rattle.envelope.specs.Private.{Judged, key_at, judged_by}
use Rattle.envelope.proofs.Laws.{length-le, never-out, keys-agree, twins-agree, destination-ranged, part_bytes}

-- ---- the refusal of a frame, from that of its shape and from that of its values

pub refusal-broken : (f : List ℕ) {s : ℕ} → s ≡ whole_refusal f → (s ≡ 0 → ⊥) → s ≡ frame_refusal f
unfolding frame_refusal
refusal-broken f {s} p h = p ∙ sym (or-refused (whole_refusal f) _ (λ z. h (p ∙ z)))

-- what was judged of the values of a frame that is whole: the frame's number, and beside 8 the first destination that equals an earlier one
pub record Judges (f : List ℕ) (j : Judged) : Type 0 where
  pub number : j.refusal ≡ frame_refusal f
  pub values : frame_refusal f ≡ values_refusal_by (fields_of f) (length_of f) false (repeats same_address (destination_at (drop destinations_offset f)) (count_of f))
  pub twin : j.refusal ≡ 8 → j.twin ≡ first_twin (destination_at (drop destinations_offset f)) (count_of f)

pub judges : (f : List ℕ) → Bytes f → {j : Judged} (e : Fixed) (keys : List ℕ)
    → whole_refusal f ≡ 0 → e ≡ fields_of f → keys ≡ row 63 0 (key_at (destination_at (drop destinations_offset f))) e.count
    → j ≡ judged_by e e.length false (element_at 0 keys) → Judges f j
unfolding frame_refusal fields_of judged_by
judges f b {j} e keys z p k h =
    let d = destination_at (drop destinations_offset f) in
    let r : (i : ℕ) → i < count_of f → in_range (d i) ≡ true = λ i l. destination-ranged (drop destinations_offset f) (part_bytes destinations_offset f b) i in
    let n : j.refusal ≡ values_refusal_by (fields_of f) (length_of f) false (repeats same_address d (count_of f)) = ap (λ (x : Judged). x.refusal) h ∙ rw (k, p, keys-agree d (count_of f) r) in
    record {
      number = n ∙ rw (z, never-out f b);
      values = rw (z, never-out f b);
      twin = λ q. ap (λ (x : Judged). x.twin) h ∙ rw (k, p, keys-agree d (count_of f) r, ← n, q, twins-agree d (count_of f) r);
    }

-- ---- the places

module _ (f : List ℕ) where
  pub whole-1 : length f < size_of f → (1 ≡ whole_refusal f) × (length f ≡ place_beside (whole_refusal f) f)
  unfolding whole_refusal place_beside
  whole-1 h = let e = lt-ltb (length f) (size_of f) h in (rw e, rw e)

  pub whole-2 : size_of f < length f → (2 ≡ whole_refusal f) × (size_of f ≡ place_beside (whole_refusal f) f)
  unfolding whole_refusal place_beside
  whole-2 h =
      let e = le-ltb (length f) (size_of f) (omega arith) in
      let g = lt-ltb (size_of f) (length f) h in
      (rw (e, g), rw (e, g))

  module _ (e : length f ≡ size_of f) where
    short : ltb (length f) (size_of f) ≡ false
    short = le-ltb (length f) (size_of f) (omega (arith, e))

    long : ltb (size_of f) (length f) ≡ false
    long = le-ltb (size_of f) (length f) (omega (arith, e))

    pub whole-3 : (check_of (take (length f - 1) f) ≡ get_or f (length f - 1) 0 → ⊥) → (3 ≡ whole_refusal f) × (length f - 1 ≡ place_beside (whole_refusal f) f)
    unfolding whole_refusal place_beside
    whole-3 n =
        let c = ne_eqb (check_of (take (length f - 1) f)) (get_or f (length f - 1) 0) n in
        (rw (short, long, c), rw (short, long, c) (ap (λ (m : ℕ). m - 1) e))

    pub whole-0 : check_of (take (length f - 1) f) ≡ get_or f (length f - 1) 0 → (whole_refusal f ≡ 0) × (place_beside (whole_refusal f) f ≡ 0)
    unfolding whole_refusal place_beside
    whole-0 n =
        let c = eq-eqb (check_of (take (length f - 1) f)) (get_or f (length f - 1) 0) n in
        (rw (short, long, c), rw (short, long, c))

-- the place of values' numbers: 5 and 6 are none of a reader's
value-by-tests : (f : List ℕ) (p q r s : Bool) (twin : ℕ)
    → (refuse 4 p (refuse 5 false (refuse 6 false (refuse 7 q (refuse 8 r (refuse 9 s 0))))) ≡ 0 → ⊥)
    → (refuse 4 p (refuse 5 false (refuse 6 false (refuse 7 q (refuse 8 r (refuse 9 s 0))))) ≡ 8 → twin ≡ first_twin (destination_at (drop destinations_offset f)) (count_of f))
    → value_place (refuse 4 p (refuse 5 false (refuse 6 false (refuse 7 q (refuse 8 r (refuse 9 s 0)))))) (count_of f) twin
    ≡ place_beside (refuse 4 p (refuse 5 false (refuse 6 false (refuse 7 q (refuse 8 r (refuse 9 s 0)))))) f
unfolding value_place place_beside
value-by-tests f true q r s twin h t = refl
value-by-tests f false true r s twin h t = refl
value-by-tests f false false true s twin h t = ap destination_place (t refl)
value-by-tests f false false false true twin h t = refl
value-by-tests f false false false false twin h t = absurd (h refl)

pub place-of-values : (f : List ℕ) → Bytes f → {j : Judged} → Judges f j → (j.refusal ≡ 0 → ⊥) → value_place j.refusal (count_of f) j.twin ≡ place_beside j.refusal f
unfolding values_refusal_by
place-of-values f b {j} g h =
    let e = g.number ∙ g.values in
    rw (e, le-ltb 1023 (length_of f) (length-le f b))
    (value-by-tests f (outside most_destinations (fields_of f).count) (outside lowest_priority (fields_of f).priority) (repeats same_address (destination_at (drop destinations_offset f)) (count_of f)) (wrong_version (fields_of f).version (fields_of f).kind) j.twin
    (λ z. h (e ∙ rw (le-ltb 1023 (length_of f) (length-le f b)) z)) (λ q. g.twin (e ∙ rw (le-ltb 1023 (length_of f) (length-le f b)) q)))

-- the place of a frame's number, and of none
pub place_of-broken : (f : List ℕ) {k place : ℕ} → (k ≡ 0 → ⊥) → k ≡ whole_refusal f → place ≡ place_beside (whole_refusal f) f → (k ≡ frame_refusal f) × (place ≡ frame_place f)
unfolding frame_place
place_of-broken f {k} {place} h p q = let e = refusal-broken f p h in (e, q ∙ ap (λ (n : ℕ). place_beside n f) (sym p ∙ e))

pub place_at : (f : List ℕ) {k : ℕ} → k ≡ frame_refusal f → place_beside k f ≡ frame_place f
unfolding frame_place
place_at f h = ap (λ (n : ℕ). place_beside n f) h

pub place-none : (f : List ℕ) → frame_refusal f ≡ 0 → frame_place f ≡ 0
unfolding frame_place place_beside
place-none f z = rw z

-- ---- what the readers' answers say

-- the reader's answer, from the number
pub read-broken : (f : List ℕ) {n place : ℕ} → n ≡ frame_refusal f → (n ≡ 0 → ⊥) → place ≡ place_beside n f → Refused n place ≡ read_frame_of f
unfolding read_frame_of frame_place
read-broken f {n} {place} p h q = rw (← p, ← q) (sym (refused (Envelope (fields_of f)) (Refused n place) n h))

pub read_whole : (f : List ℕ) {e : Fixed} → frame_refusal f ≡ 0 → e ≡ fields_of f → Envelope e ≡ read_frame_of f
unfolding read_frame_of
read_whole f {e} z p = ap Envelope p ∙ sym (taken (Envelope (fields_of f)) (Refused (frame_refusal f) (frame_place f)) z)

-- the documents' number, place and values of the reader's answer
told_refusal : (n place : ℕ) (e : Fixed) → read_refusal (unless_refused n (Envelope e) (Refused n place)) ≡ n
unfolding unless_refused
told_refusal zero place e = refl
told_refusal (suc n) place e = refl

told-place : (n : ℕ) (f : List ℕ) (e : Fixed) → read_place (unless_refused n (Envelope e) (Refused n (place_beside n f))) ≡ place_beside n f
unfolding unless_refused place_beside
told-place zero f e = refl
told-place (suc n) f e = refl

told-fields : (n place : ℕ) (e : Fixed) → read_fields (unless_refused n (Envelope e) (Refused n place)) ≡ unless_refused n e zero_fields
unfolding unless_refused
told-fields zero place e = refl
told-fields (suc n) place e = refl

pub read-refusal : (f : List ℕ) → read_refusal (read_frame_of f) ≡ frame_refusal f
unfolding read_frame_of
read-refusal f = told_refusal (frame_refusal f) (frame_place f) (fields_of f)

pub read-place : (f : List ℕ) → read_place (read_frame_of f) ≡ frame_place f
unfolding read_frame_of frame_place
read-place f = told-place (frame_refusal f) f (fields_of f)

pub read-fields : (f : List ℕ) → read_fields (read_frame_of f) ≡ unless_refused (frame_refusal f) (fields_of f) zero_fields
unfolding read_frame_of
read-fields f = told-fields (frame_refusal f) (frame_place f) (fields_of f)

-- all that the reader promises, from its answer
pub read_told : (f : List ℕ) {r : Read} → r ≡ read_frame_of f
    → (r ≡ read_frame_of f) × ((read_refusal r ≡ frame_refusal f) × ((read_place r ≡ frame_place f) × (read_fields r ≡ unless_refused (frame_refusal f) (fields_of f) zero_fields)))
read_told f e = (e, (ap read_refusal e ∙ read-refusal f, (ap read_place e ∙ read-place f, ap read_fields e ∙ read-fields f)))

-- what the code promises of the reader's result
abbrev pub Answered : List ℕ → Result Fixed Fault → Type 0
Answered f x = AnswersAt x (frame_refusal f) (frame_place f) (fields_of f)

-- what the reader tells: its answer, and the documents' number, place and values of it
pub record Tells (f : List ℕ) (x : Result Fixed Fault) : Type 0 where
  pub answer : read_answer x ≡ read_frame_of f
  pub refusal : read_refusal (read_answer x) ≡ frame_refusal f
  pub place : read_place (read_answer x) ≡ frame_place f
  pub values : read_fields (read_answer x) ≡ unless_refused (frame_refusal f) (fields_of f) zero_fields

told : (f : List ℕ) (x : Result Fixed Fault) → read_answer x ≡ read_frame_of f → Tells f x
told f x e = let w = read_told f e in record { answer = w.0; refusal = w.1.0; place = w.1.1.0; values = w.1.1.1 }

pub tells : (f : List ℕ) (x : Result Fixed Fault) → Answered f x → Tells f x
tells f (Ok e) h = told f (Ok e) (read_whole f h.0 h.1.1)
tells f (Err g) h = told f (Err g) (read-broken f h.0 (names.none_zero g.refusal) (h.1 ∙ sym (place_at f h.0)))

-- what an envelope says of the number and the fields, and what a refusal does
pub record Opened (n : ℕ) (e e' : Fixed) : Type 0 where
  pub none : n ≡ 0
  pub same : e ≡ e'

opened : (n place : ℕ) (e e' : Fixed) → Envelope e ≡ unless_refused n (Envelope e') (Refused n place) → Opened n e e'
unfolding unless_refused
opened zero place e e' h = record { none = refl; same = cc }
opened (suc n) place e e' h = let z : ◌≡◌ {A = ℕ} 0 1 = cc in absurd (omega arith)

closed : (n place k at : ℕ) (e : Fixed) → Refused k at ≡ unless_refused n (Envelope e) (Refused n place) → (n ≡ 0 → ⊥) × (k ≡ n) × (at ≡ place)
unfolding unless_refused
closed zero place k at e h = let z : ◌≡◌ {A = ℕ} 0 1 = cc in absurd (omega arith)
closed (suc n) place k at e h = ((λ z. omega arith), cc, cc)

pub read-envelope : (f : List ℕ) (e : Fixed) → Envelope e ≡ read_frame_of f → Opened (frame_refusal f) e (fields_of f)
unfolding read_frame_of
read-envelope f e h = opened (frame_refusal f) (frame_place f) e (fields_of f) h

pub read-refused : (f : List ℕ) (k at : ℕ) → Refused k at ≡ read_frame_of f → (frame_refusal f ≡ 0 → ⊥) × (k ≡ frame_refusal f) × (at ≡ frame_place f)
unfolding read_frame_of
read-refused f k at h = closed (frame_refusal f) (frame_place f) k at (fields_of f) h

-- the same of the reader's answer as the code has it
pub opened-answer : (f : List ℕ) (e : Fixed) → AnswersAt (Ok e) (frame_refusal f) (frame_place f) (fields_of f) → Opened (frame_refusal f) e (fields_of f)
opened-answer f e h = record { none = h.0; same = h.1.1 }

pub refused-answer : (f : List ℕ) (e : Fault) → AnswersAt (Err e) (frame_refusal f) (frame_place f) (fields_of f) → frame_refusal f ≡ 0 → ⊥
refused-answer f e h z = names.none_zero e.refusal (h.0 ∙ z)
