-- The theorems of places: places-near, places-point.
use Prim.Native.Nat.{ℕ, ◌-◌, ◌<◌, ◌≤◌}
use mathlib.Core.Path.{◌≡◌, refl, sym, ap, ◌∙◌}
use mathlib.Core.Bool.{Bool, true, false, not, cond, ◌||◌}
use mathlib.Core.List.{List, [], ◌∷◌}
use native.Mathlib.Omega.{arith}
use native.Mathlib.Decide.{dec_lt, ℕ_discrete}
use lib.Dec.{eqb, ltb}
use lib.ListN.{length, get_or, take, drop}
use borrow.Author.Tests.{ltb-true, ltb-false, ne_eqb}
use Rattle.buffer.specs.Bytes.{Bytes}
use Rattle.lists.specs.Places.{any_below, first_below, same_at, repeat_at, repeats}
use Rattle.lists.specs.Refusals.{refuse, or_else, among}
use Rattle.lists.proofs.Given.{Given, tested, either}
use Rattle.lists.proofs.Bools.{both_ways}
use Rattle.lists.proofs.Places.{FirstAt, any_found, any_false, first_found, first-most}
use Rattle.address.specs.Address.{in_range, same_address}
use Rattle.address.proofs.Laws.{same-eq, same_refl}
use Rattle.envelope.specs.Frame.{destinations_offset, length_of, count_of, size_of, fields_of, destination_at, check_of}
use Rattle.envelope.specs.Refusal.{most_destinations, longest_contents, lowest_priority, outside, stray_at, out_of_range, wrong_version, whole_refusal, values_refusal_by, values_refusal, frame_refusal}
use Rattle.envelope.specs.Place.{destination_place, first_twin, stray_place, place_beside, frame_place}
use Rattle.envelope.proofs.Laws.{count-le, length-le}
use Rattle.envelope_read.specs.Promises.{PlaceNear, PlacesNear, destination_of, Twin, TwinFound, PlacesPoint}

-- the larger of what a test chooses
either-le : (t : Bool) {x y m : ℕ} → x ≤ m → y ≤ m → cond t x y ≤ m
either-le true p q = p
either-le false p q = q

-- ---- what a number says of the tests: each has its own, and the others give others

-- a number that none of these is
not-among : (n : ℕ) (ks : List ℕ) {k : ℕ} → Given ks n → among k ks ≡ false → n ≡ k → ⊥
not-among n ks g h e = both_ways g.is (ap (λ (m : ℕ). among m ks) e ∙ h)

abbrev whole_by : Bool → Bool → Bool → ℕ
whole_by b c d = refuse 1 b (refuse 2 c (refuse 3 d 0))

abbrev values_by : Bool → Bool → Bool → Bool → Bool → Bool → ℕ
values_by p s t q r v = refuse 4 p (refuse 5 s (refuse 6 t (refuse 7 q (refuse 8 r (refuse 9 v 0)))))

module _ (c d p s t q r v : Bool) where
  others : Given (0 ∷ 2 ∷ 3 ∷ 4 ∷ 5 ∷ 6 ∷ 7 ∷ 8 ∷ 9 ∷ []) (or_else (whole_by false c d) (values_by p s t q r v))
  others =
      let ks : List ℕ = 0 ∷ 2 ∷ 3 ∷ 4 ∷ 5 ∷ 6 ∷ 7 ∷ 8 ∷ 9 ∷ [] in
      let z : Given ks 0 = record { is = refl } in
      either ks _ (tested ks 2 c refl (tested ks 3 d refl z))
      (tested ks 4 p refl (tested ks 5 s refl (tested ks 6 t refl (tested ks 7 q refl (tested ks 8 r refl (tested ks 9 v refl z))))))

  says-1 : (b : Bool) → or_else (whole_by b c d) (values_by p s t q r v) ≡ 1 → b ≡ true
  says-1 true e = refl
  says-1 false e = absurd (not-among _ _ others refl e)

says-3 : (b c d : Bool) (n : ℕ) → or_else (whole_by b c d) n ≡ 3 → c ≡ false
says-3 b false d n e = refl
says-3 true true d n e = absurd (omega arith)
says-3 false true d n e = absurd (omega arith)

says-8 : (b c d p s t q r v : Bool) → or_else (whole_by b c d) (values_by p s t q r v) ≡ 8 → r ≡ true
says-8 b c d p s t q true v e = refl
says-8 b c d p s t q false v e =
    let ks : List ℕ = 0 ∷ 1 ∷ 2 ∷ 3 ∷ 4 ∷ 5 ∷ 6 ∷ 7 ∷ 9 ∷ [] in
    let z : Given ks 0 = record { is = refl } in
    absurd (not-among _ ks
    (either ks _ (tested ks 1 b refl (tested ks 2 c refl (tested ks 3 d refl z)))
    (tested ks 4 p refl (tested ks 5 s refl (tested ks 6 t refl (tested ks 7 q refl (tested ks 9 v refl z))))))
    refl e)

-- ---- where the frame ends

module _ (f : List ℕ) where
  abbrev spoiled : Bool
  spoiled = not (eqb (check_of (take (length f - 1) f)) (get_or f (length f - 1) 0))

  abbrev crowded : Bool
  crowded = outside most_destinations (fields_of f).count

  abbrev long : Bool
  long = ltb longest_contents (length_of f)

  abbrev stray : Bool
  stray = out_of_range (fields_of f) (destination_at (drop destinations_offset f))

  abbrev unranked : Bool
  unranked = outside lowest_priority (fields_of f).priority

  abbrev repeating : Bool
  repeating = repeats same_address (destination_at (drop destinations_offset f)) (fields_of f).count

  abbrev misversioned : Bool
  misversioned = wrong_version (fields_of f).version (fields_of f).kind

  -- a frame that is refused with 1 is shorter than its counts ask for, and any other is not
  is-short : frame_refusal f ≡ 1 → length f < size_of f
  unfolding frame_refusal whole_refusal values_refusal_by
  is-short e = ltb-true (length f) (size_of f) (says-1 (ltb (size_of f) (length f)) spoiled crowded long stray unranked repeating misversioned (ltb (length f) (size_of f)) e)

  is-long : (frame_refusal f ≡ 1 → ⊥) → size_of f ≤ length f
  unfolding frame_refusal whole_refusal
  is-long ne = go (ltb (length f) (size_of f)) refl
    where
      go : (b : Bool) → ltb (length f) (size_of f) ≡ b → size_of f ≤ length f
      go true e = absurd (ne (rw e))
      go false e = ltb-false (length f) (size_of f) e

  -- no place is past the size that the counts ask for, but that of 1
  stray-le : stray_place (fields_of f) (destination_at (drop destinations_offset f)) ≤ size_of f
  unfolding stray_place fields_of
  stray-le =
      let m = first-most (stray_at (destination_at (drop destinations_offset f))) (count_of f) in
      either-le (in_range (fields_of f).source) (either-le (any_below (stray_at (destination_at (drop destinations_offset f))) (count_of f)) (omega (arith, m)) (omega arith)) (omega arith)

  twin-le : destination_place (first_twin (destination_at (drop destinations_offset f)) (count_of f)) ≤ size_of f
  unfolding first_twin
  twin-le = let m = first-most (repeat_at same_address (destination_at (drop destinations_offset f))) (count_of f) in omega (arith, m)

  place-le : (n : ℕ) → (n ≡ 1 → ⊥) → place_beside n f ≤ size_of f
  unfolding place_beside
  place-le n ne =
      rw (ne_eqb n 1 ne)
      (either-le (eqb n 2) (omega arith)
      (either-le (eqb n 3) (omega arith)
      (either-le (eqb n 4) (omega arith)
      (either-le (eqb n 5) (omega arith)
      (either-le (eqb n 6) stray-le
      (either-le (eqb n 8) twin-le
      (either-le (eqb n 7 || eqb n 9) (omega arith) (omega arith))))))))

  size-le : Bytes f → size_of f ≤ 1222
  size-le b = omega (arith, count-le f, length-le f b)

  ends_at : frame_refusal f ≡ 1 → frame_place f ≡ length f
  unfolding frame_place place_beside
  ends_at e = rw e

pub places-near : PlacesNear
unfolding frame_place
places-near f b = go (ℕ_discrete (frame_refusal f) 1)
  where
    go : Dec (frame_refusal f ≡ 1) → PlaceNear f
    go (yes e) = record { within = omega (arith, ends_at f e); small = omega (arith, ends_at f e, is-short f e, size-le f b); short = λ q. omega (arith, ends_at f e, is-short f e, size-le f b) }
    go (no ne) = record { within = omega (arith, place-le f (frame_refusal f) ne, is-long f ne); small = omega (arith, place-le f (frame_refusal f) ne, size-le f b); short = λ q. absurd (ne q) }

-- ---- what a place points at

module _ (f : List ℕ) where
  -- refused with 3, a frame has its own size
  sized : frame_refusal f ≡ 3 → size_of f ≡ length f
  unfolding frame_refusal whole_refusal
  sized e =
      omega (
        arith,
        is-long f (λ q. omega (arith, e, q)),
        ltb-false (size_of f) (length f) (says-3 (ltb (length f) (size_of f)) (ltb (size_of f) (length f)) (spoiled f) (values_refusal (fields_of f) (length_of f) (destination_at (drop destinations_offset f))) e),
      )

  -- refused with 8, two destinations are equal
  repeated : frame_refusal f ≡ 8 → repeats same_address (destination_at (drop destinations_offset f)) (count_of f) ≡ true
  unfolding frame_refusal whole_refusal values_refusal_by fields_of
  repeated e = says-8 (ltb (length f) (size_of f)) (ltb (size_of f) (length f)) (spoiled f) (crowded f) (long f) (stray f) (unranked f) (repeating f) (misversioned f) e

  -- a destination that equals an earlier one passes the test, and one that passes has such an earlier one
  is-twin : (i j : ℕ) → Twin f i j → repeat_at same_address (destination_at (drop destinations_offset f)) i ≡ true
  unfolding repeat_at same_at
  is-twin i j w = any_found _ i j w.earlier (ap (same_address (destination_of f i)) (sym w.equal) ∙ same_refl (destination_of f i))

  earliest : {k : ℕ} (i : ℕ) → repeat_at same_address (destination_at (drop destinations_offset f)) i ≡ true → i < count_of f
      → FirstAt (repeat_at same_address (destination_at (drop destinations_offset f))) (count_of f) k → k ≤ i
  earliest {k} i p l a = go (dec_lt i k)
    where
      go : Dec (i < k) → k ≤ i
      go (yes h) = absurd (both_ways p (any_false (repeat_at same_address (destination_at (drop destinations_offset f))) k i a.none_before h))
      go (no h) = omega arith

  found : frame_refusal f ≡ 8 → TwinFound f
  unfolding frame_place place_beside first_twin repeats repeat_at same_at
  found e =
      let d = destination_at (drop destinations_offset f) in
      let a = first_found (repeat_at same_address d) (count_of f) (repeated e) in
      let b = first_found (same_at same_address d (first_below (repeat_at same_address d) (count_of f))) (first_below (repeat_at same_address d) (count_of f)) a.passes in
      record {
        which = first_below (repeat_at same_address d) (count_of f);
        before = first_below (same_at same_address d (first_below (repeat_at same_address d) (count_of f))) (first_below (repeat_at same_address d) (count_of f));
        twin = record { counts = a.below; earlier = b.below; equal = same-eq _ _ b.passes };
        first = λ i j w. earliest i (is-twin i j w) w.counts a;
        place = rw e;
      }

pub places-point : PlacesPoint
unfolding frame_place place_beside
places-point f =
    record {
      none = λ e. rw e;
      ends = λ e. rw e;
      over = λ e. rw e;
      check = λ e. let s = sized f e in rw e (omega arith);
      count = λ e. rw e;
      priority = λ e. rw e;
      twins = found f;
      version = λ e. rw e;
    }
