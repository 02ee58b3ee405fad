-- Laws of the definitions of specs/: the check character byte by byte, ranges, and what an accepted frame is.
use Prim.Native.Nat.{ℕ, zero, suc, ◌+◌, ◌*◌, ◌/◌, ◌-◌, ◌<◌, ◌≤◌}
use mathlib.Core.Path.{◌≡◌, refl, sym, ap, ◌∙◌}
use mathlib.Core.List.{List, [], ◌∷◌, ◌++◌}
use mathlib.Core.Bool.{Bool, true, false, not, cond}
use native.Mathlib.Omega.{arith}
use native.Mathlib.Numerals.{add-one}
use lib.Bits.{bit_xor}
use Rattle.std.specs.List.{fold}
use lib.ListN.{length, get_or, take, drop, length-drop, drop_of_length-le}
use lib.Seq.{take-suc, take_all, drop-cons, get_or-drop}
use lib.Dec.{eqb, ltb}
use borrow.Author.Tests.{lt-ltb, le-ltb, ltb-false, eqb-true, eqb-false, not-false}
use Rattle.buffer.specs.Bytes.{Bytes, word_at}
use Rattle.lists.specs.Places.{any_below, first_below, repeat_at, repeats, element_at, row}
use Rattle.lists.proofs.Bools.{or-neither-of}
use Rattle.lists.proofs.Places.{first-most, any-agree, any-never, any_false, repeats-agree, first-repeat-agree, Agree, row_at}
use Rattle.lists.proofs.Refusals.{pass, or-pass}
use Rattle.address.specs.declared.Address.{Address}
use Rattle.address.specs.Address.{in_range, same_address}
use Rattle.address_bytes.specs.Packed.{address_key}
use Rattle.address_bytes.proofs.PackedLaws.{unpack-ranged, key-same}
use Rattle.envelope.specs.declared.Fixed.{Fixed}
use Rattle.envelope.specs.Frame.{destinations_offset, length_of, count_of, size_of, fields_of, destination_at, xor_from, check_of}
use Rattle.envelope.specs.Refusal.{page_officer, version_for, outside, stray_at, out_of_range, wrong_version, whole_refusal, values_refusal_by, values_refusal, frame_refusal}
use Rattle.envelope.specs.Place.{first_twin, place_beside, frame_place}
use Rattle.envelope.specs.Private.{key_at, judged_by}

-- ---- the check character

xor-snoc : (x : ℕ) (l : List ℕ) (b : ℕ) → xor_from x (l ++ (b ∷ [])) ≡ bit_xor (xor_from x l) b
unfolding xor_from
xor-snoc x [] b = refl
xor-snoc x (a ∷ l) b = xor-snoc (bit_xor x a) l b

pub check-more : (s : List ℕ) (i : ℕ) → i < length s → check_of (take (i + 1) s) ≡ bit_xor (check_of (take i s)) (get_or s i 0)
check-more s i h = rw (add-one, take-suc s i 0, xor-snoc)

pub check-none : (s : List ℕ) → check_of (take 0 s) ≡ 0
unfolding xor_from
check-none s = refl

-- the bytes folded from the front
pub xor-fold : (x : ℕ) (l : List ℕ) → fold bit_xor x l ≡ xor_from x l
unfolding xor_from
xor-fold x [] = refl
xor-fold x (b ∷ l) = xor-fold (bit_xor x b) l

-- ---- parts of a frame

-- the part of a slice from a on, as the code has it
pub part-from : (a : ℕ) (f : List ℕ) → take (length f - a) (drop a f) ≡ drop a f
part-from a f = take_all (length f - a) (drop a f) (simp length-drop (omega arith))

pub part_bytes : (a : ℕ) (f : List ℕ) → Bytes f → Bytes (drop a f)
part_bytes a f b i = rw get_or-drop (b (a + i))

pub count-le : (f : List ℕ) → count_of f ≤ 63
unfolding count_of
count-le f = omega arith

-- the two bounds that ten bits of length and fifteen of sequence number have by themselves
pub length-le : (f : List ℕ) → Bytes f → length_of f ≤ 1023
unfolding length_of
length-le f b = omega (arith, b 3, b 4)

-- ---- ranges: what bytes give is never out of range

-- a destination that is read is in range
pub destination-ranged : (part : List ℕ) → Bytes part → (i : ℕ) → in_range (destination_at part i) ≡ true
unfolding destination_at
destination-ranged part b i = unpack-ranged part b (3 * i)

pub never-stray : (part : List ℕ) → Bytes part → (n : ℕ) → any_below (stray_at (destination_at part)) n ≡ false
unfolding stray_at
never-stray part b n = any-never (stray_at (destination_at part)) (λ i. rw (destination-ranged part b i)) n

-- nothing in a frame of bytes is out of range
pub never-out : (f : List ℕ) → Bytes f → out_of_range (fields_of f) (destination_at (drop destinations_offset f)) ≡ false
unfolding out_of_range fields_of
never-out f b =
    let p = 5 + 3 * count_of f in
    rw (
      unpack-ranged f b 0,
      le-ltb 32767 (word_at f (p + 1) / 2) (omega (arith, b (p + 1), b (p + 1 + 1))),
      never-stray (drop destinations_offset f) (part_bytes destinations_offset f b) (count_of f),
    )

-- ---- equal destinations are equal keys

module _ (d : ℕ → Address) (n : ℕ) (r : (i : ℕ) → i < n → in_range (d i) ≡ true) where
  key-agree : (i j : ℕ) → i < n → j < n → eqb (element_at 0 (row 63 0 (key_at d) n) i) (element_at 0 (row 63 0 (key_at d) n) j) ≡ same_address (d i) (d j)
  unfolding key_at
  key-agree i j hi hj =
      ap (λ (k : ℕ). eqb k (element_at 0 (row 63 0 (key_at d) n) j)) (sym (row_at 63 0 (key_at d) n i hi))
      ∙ ap (eqb (address_key (d i))) (sym (row_at 63 0 (key_at d) n j hj))
      ∙ sym (key-same (d i) (d j) (r i hi) (r j hj))

  pub keys-agree : repeats eqb (element_at 0 (row 63 0 (key_at d) n)) n ≡ repeats same_address d n
  keys-agree = repeats-agree eqb same_address (element_at 0 (row 63 0 (key_at d) n)) d n key-agree

  -- and so is the first that equals an earlier one
  pub twins-agree : first_below (repeat_at eqb (element_at 0 (row 63 0 (key_at d) n))) n ≡ first_twin d n
  unfolding first_twin
  twins-agree = first-repeat-agree eqb same_address (element_at 0 (row 63 0 (key_at d) n)) d n key-agree

pub values_agree : (e : Fixed) (n : ℕ) (d d' : ℕ → Address) → Agree d d' e.count → values_refusal e n d ≡ values_refusal e n d'
unfolding out_of_range stray_at
values_agree e n d d' a =
    rw (
      any-agree (stray_at d) (stray_at d') e.count (λ i l. rw (a i l)),
      repeats-agree same_address same_address d d' e.count (λ i j hi hj. rw (a i hi, a j hj)),
    )

-- ---- what passes each group of refusals

-- a frame that passes 1 to 3
pub record Framed (f : List ℕ) : Type 0 where
  pub sized : size_of f ≡ length f
  pub checked : check_of (take (length f - 1) f) ≡ get_or f (length f - 1) 0

pub framed : (f : List ℕ) → whole_refusal f ≡ 0 → Framed f
unfolding whole_refusal
framed f h =
    let p1 = pass 0 (ltb (length f) (size_of f)) _ h in
    let p2 = pass 1 (ltb (size_of f) (length f)) _ p1.1 in
    let p3 = pass 2 (not (eqb (check_of (take (length f - 1) f)) (get_or f (length f - 1) 0))) _ p2.1 in
    record { sized = omega (arith, ltb-false (length f) (size_of f) p1.0, ltb-false (size_of f) (length f) p2.0); checked = eqb-true _ _ (not-false _ p3.0) }

-- values that pass 4 to 9
pub record Valued (e : Fixed) (n : ℕ) (stray equal : Bool) : Type 0 where
  pub counted : outside 63 e.count ≡ false
  pub short : n ≤ 1023
  pub inside : stray ≡ false
  pub urgent : outside 9 e.priority ≡ false
  pub distinct : equal ≡ false
  pub versioned : wrong_version e.version e.kind ≡ false

pub valued : (e : Fixed) (n : ℕ) (stray equal : Bool) → values_refusal_by e n stray equal ≡ 0 → Valued e n stray equal
unfolding values_refusal_by
valued e n stray equal h =
    let p4 = pass 3 (outside 63 e.count) _ h in
    let p5 = pass 4 (ltb 1023 n) _ p4.1 in
    let p6 = pass 5 stray _ p5.1 in
    let p7 = pass 6 (outside 9 e.priority) _ p6.1 in
    let p8 = pass 7 equal _ p7.1 in
    let p9 = pass 8 (wrong_version e.version e.kind) _ p8.1 in
    record { counted = p4.0; short = ltb-false _ _ p5.0; inside = p6.0; urgent = p7.0; distinct = p8.0; versioned = p9.0 }

-- the number of values, from the tests on the way
module _ (e : Fixed) (n : ℕ) (stray equal : Bool) where
  pub values-4 : outside 63 e.count ≡ true → 4 ≡ values_refusal_by e n stray equal
  unfolding values_refusal_by
  values-4 h = rw h

  module _ (counted : outside 63 e.count ≡ false) where
    pub values-5 : 1023 < n → 5 ≡ values_refusal_by e n stray equal
    unfolding values_refusal_by
    values-5 h = rw (counted, lt-ltb 1023 n h)

    module _ (short : n ≤ 1023) where
      pub values-6 : stray ≡ true → 6 ≡ values_refusal_by e n stray equal
      unfolding values_refusal_by
      values-6 h = rw (counted, le-ltb 1023 n short, h)

      module _ (inside : stray ≡ false) where
        pub values-7 : outside 9 e.priority ≡ true → 7 ≡ values_refusal_by e n stray equal
        unfolding values_refusal_by
        values-7 h = rw (counted, le-ltb 1023 n short, inside, h)

        module _ (urgent : outside 9 e.priority ≡ false) where
          pub values-8 : equal ≡ true → 8 ≡ values_refusal_by e n stray equal
          unfolding values_refusal_by
          values-8 h = rw (counted, le-ltb 1023 n short, inside, urgent, h)

          module _ (distinct : equal ≡ false) where
            pub values-9 : wrong_version e.version e.kind ≡ true → 9 ≡ values_refusal_by e n stray equal
            unfolding values_refusal_by
            values-9 h = rw (counted, le-ltb 1023 n short, inside, urgent, distinct, h)

            pub values-right : wrong_version e.version e.kind ≡ false → 0 ≡ values_refusal_by e n stray equal
            unfolding values_refusal_by
            values-right h = rw (counted, le-ltb 1023 n short, inside, urgent, distinct, h)

-- what is judged by keys: beside any number but 8 there is no twin
module _ (e : Fixed) (n : ℕ) (stray : Bool) (keys : ℕ → ℕ) where
  pub judged-plain : {k : ℕ} → eqb k 8 ≡ false → k ≡ values_refusal_by e n stray (repeats eqb keys e.count) → (k ≡ (judged_by e n stray keys).refusal) × (0 ≡ (judged_by e n stray keys).twin)
  unfolding judged_by
  judged-plain q p = (p, rw (← p, q))

  pub judged-8 : {i : ℕ} → i ≡ first_below (repeat_at eqb keys) e.count → 8 ≡ values_refusal_by e n stray (repeats eqb keys e.count)
      → (8 ≡ (judged_by e n stray keys).refusal) × (i ≡ (judged_by e n stray keys).twin)
  unfolding judged_by
  judged-8 h p = (p, rw (← p, h))

  -- and it is no place past the destinations
  pub twin-le : (judged_by e n stray keys).twin ≤ e.count
  unfolding judged_by
  twin-le = go (eqb (values_refusal_by e n stray (repeats eqb keys e.count)) 8)
    where
      go : (b : Bool) → cond b (first_below (repeat_at eqb keys) e.count) 0 ≤ e.count
      go true = first-most (repeat_at eqb keys) e.count
      go false = omega arith

-- an accepted frame
pub record Accepted (f : List ℕ) : Type 0 where
  pub frame : Framed f
  pub values : Valued (fields_of f) (length_of f) (out_of_range (fields_of f) (destination_at (drop destinations_offset f))) (repeats same_address (destination_at (drop destinations_offset f)) (count_of f))

pub accepted : (f : List ℕ) → frame_refusal f ≡ 0 → Accepted f
unfolding frame_refusal fields_of
accepted f h =
    let p = or-pass (whole_refusal f) _ h in
    record { frame = framed f p.0; values = valued _ _ _ _ p.1 }

-- it has no place
pub no_place : (f : List ℕ) → frame_refusal f ≡ 0 → 0 ≡ frame_place f
unfolding frame_place place_beside
no_place f z = rw z

-- the end of an accepted frame is its check character
pub last_byte : (f : List ℕ) → frame_refusal f ≡ 0 → drop (length f - 1) f ≡ check_of (take (length f - 1) f) ∷ []
last_byte f z =
    let a = (accepted f z).frame in
    let h : length f - 1 < length f = omega (arith, a.sized) in
    let k : length f ≤ suc (length f - 1) = omega arith in
    rw (drop-cons f (length f - 1) 0 h, drop_of_length-le f {i = suc (length f - 1)} k, a.checked)

-- ---- the tests on values, as facts on numbers

pub outside-false : (top n : ℕ) → outside top n ≡ false → (0 < n) × (n ≤ top)
unfolding outside
outside-false top n h =
    let p = or-neither-of (eqb n 0) (ltb top n) h in
    let q : n ≡ 0 → ⊥ = eqb-false n 0 p.0 in
    (pos n q, ltb-false top n p.1)
  where
    pos : (m : ℕ) → (m ≡ 0 → ⊥) → 0 < m
    pos zero h = absurd (h refl)
    pos (suc m) h = omega arith

pub record Ranged (e : Fixed) (d : ℕ → Address) : Type 0 where
  pub source_in : in_range e.source ≡ true
  pub seq-le : e.seq.0 ≤ 32767
  pub destination-in : (i : ℕ) → i < e.count → in_range (d i) ≡ true

pub ranged : (e : Fixed) (d : ℕ → Address) → out_of_range e d ≡ false → Ranged e d
unfolding out_of_range stray_at
ranged e d h =
    let p = or-neither-of (not (in_range e.source)) _ h in
    let q = or-neither-of (ltb 32767 e.seq.0) _ p.1 in
    record {
      source_in = not-false _ p.0;
      seq-le = ltb-false _ _ q.0;
      destination-in = λ i l. not-false _ (any_false (stray_at d) e.count i q.1 l);
    }

pub version-false : (v k : ℕ) → wrong_version v k ≡ false → v ≡ version_for k
unfolding wrong_version
version-false v k h = eqb-true _ _ (not-false _ h)

pub version-small : (v k : ℕ) → wrong_version v k ≡ false → v ≤ 2
version-small v k h = rw (version-false v k h) (go (eqb k page_officer))
  where
    go : (b : Bool) → cond b 2 1 ≤ 2
    go true = omega arith
    go false = omega arith
