-- What the readers give of an accepted frame is taken by the writer, and its bytes are the frame.
use Prim.Native.Nat.{ℕ, zero, suc, ◌+◌, ◌*◌, ◌/◌, ◌%◌, ◌-◌, ◌<◌, ◌≤◌}
use mathlib.Core.Path.{◌≡◌, refl, sym, ap, ◌∙◌}
use mathlib.Core.List.{List, [], ◌∷◌, ◌++◌}
use mathlib.Core.Bool.{cond}
use native.Mathlib.Omega.{arith}
use native.Mathlib.Numerals.{add-one}
use native.Mathlib.Nat.{add_assoc}
use lib.Dec.{eqb}
use lib.ListN.{length, get_or, take, drop, length-drop, take-append-drop}
use lib.Seq.{take-add, drop-cons}
use Rattle.buffer.specs.Bytes.{Bytes, word_at}
use Rattle.buffer.proofs.Words.{word-high, word_low}
use Rattle.lists.specs.Places.{element_at, joined}
use Rattle.lists.proofs.Places.{Agree, row_at}
use Rattle.lists.proofs.Refusals.{or-pass}
use Rattle.address.specs.Address.{zero_address}
use Rattle.address_bytes.specs.Packed.{packed_bytes}
use Rattle.address_bytes.proofs.PackedLaws.{undo}
use Rattle.envelope.specs.Frame.{destinations_offset, prot_offset, contents_offset, count_of, length_of, size_of, fields_of, destination_at}
use Rattle.envelope.specs.Refusal.{whole_refusal, values_refusal, frame_refusal}
use Rattle.envelope_read.specs.Parts.{contents_of, destinations_of}
use Rattle.envelope.proofs.Laws.{values_agree, accepted, last_byte, part_bytes}
use Rattle.envelope_read.proofs.PartsLaws.{contents-taken, contents-long, destinations-taken}
use Rattle.envelope_write.specs.Refusal.{frame_write_refusal}
use Rattle.envelope_write.specs.Write.{frame_head, frame_mid, frame_body, frame_bytes}
use Rattle.envelope_write.proofs.RefuseLaws.{write-fits}
use Rattle.envelope_write.proofs.Laws.{bytes-agree}

-- some bytes of a list, one by one
spelt : List ℕ → ℕ → ℕ → List ℕ
spelt l i zero = []
spelt l i (suc n) = get_or l i 0 ∷ spelt l (i + 1) n

spell : (l : List ℕ) (i n : ℕ) → i + n ≤ length l → take n (drop i l) ≡ spelt l i n
unfolding spelt
spell l i zero h = refl
spell l i (suc n) h =
    let p : i < length l = omega arith in
    rw (drop-cons l i 0 p, ← add-one i) (ap (λ (t : List ℕ). get_or l i 0 ∷ t) (spell l (i + 1) n (omega arith)))

packs-same : (part : List ℕ) → Bytes part → (n : ℕ) → 3 * n ≤ length part → joined packed_bytes (destination_at part) n ≡ take (3 * n) part
unfolding joined destination_at spelt
packs-same part b zero h = refl
packs-same part b (suc n) h =
    let s : 3 * suc n ≡ 3 * n + 3 = omega arith in
    rw (s, take-add, packs-same part b n (omega arith), spell part (3 * n) 3 (omega arith), add_assoc)
    (ap (λ (t : List ℕ). take (3 * n) part ++ t) (undo.written part b (3 * n)))

bit-back : (x : ℕ) → x < 2 → cond (eqb x 1) 1 0 ≡ x
bit-back zero h = refl
bit-back (suc zero) h = refl
bit-back (suc (suc x)) h = absurd (omega arith)

count-length : (f : List ℕ) → length_of f * 64 + count_of f ≡ word_at f 3
unfolding length_of count_of
count-length f = omega arith

module _ (f : List ℕ) (b : Bytes f) (z : frame_refusal f ≡ 0) where
  sized : size_of f ≡ length f
  sized = (accepted f z).frame.sized

  contents : List ℕ
  contents = take (length_of f) (drop (contents_offset (count_of f)) f)

  length-contents : length contents ≡ length_of f
  unfolding contents
  length-contents = ap length (sym (contents-taken f z)) ∙ contents-long f z

  head-same : frame_head (fields_of f) (length contents) ≡ take 5 f
  unfolding frame_head fields_of spelt
  head-same =
      rw (length-contents, count-length f, word-high f b 3, word_low f b 3)
      (ap (λ (t : List ℕ). t ++ (get_or f 3 0 ∷ get_or f 4 0 ∷ [])) (undo.written f b 0)
      ∙ sym (spell f 0 5 (omega (arith, sized))))

  mid-same : frame_mid (fields_of f) ≡ take 4 (drop (prot_offset (count_of f)) f)
  unfolding frame_mid fields_of spelt
  mid-same =
      let t = prot_offset (count_of f) in
      let p : get_or f t 0 / 16 * 16 + get_or f t 0 % 16 ≡ get_or f t 0 = omega arith in
      let s : word_at f (t + 1) / 2 * 2 + cond (eqb (word_at f (t + 1) % 2) 1) 1 0 ≡ word_at f (t + 1) = omega (arith, bit-back (word_at f (t + 1) % 2) (omega arith)) in
      rw (p, s, word-high f b (t + 1), word_low f b (t + 1))
      (ap (λ (k : ℕ). get_or f t 0 ∷ get_or f (t + 1) 0 ∷ get_or f (t + 1 + 1) 0 ∷ get_or f k 0 ∷ []) (omega arith)
      ∙ sym (spell f t 4 (omega (arith, sized))))

  body_same : frame_body (fields_of f) (destination_at (drop destinations_offset f)) contents ≡ take (length f - 1) f
  unfolding frame_body fields_of contents
  body_same =
      let n : length f - 1 ≡ 5 + 3 * count_of f + 4 + length_of f = omega (arith, sized) in
      let s : 5 + 3 * count_of f + 4 ≡ 9 + 3 * count_of f = omega arith in
      let p = packs-same (drop destinations_offset f) (part_bytes destinations_offset f b) (count_of f) (rw length-drop (omega (arith, sized))) in
      rw
      (n, take-add (5 + 3 * count_of f + 4) (length_of f) f, take-add (5 + 3 * count_of f) 4 f, take-add 5 (3 * count_of f) f, s, head-same, p, mid-same)

  bytes_same : frame_bytes (fields_of f) (destination_at (drop destinations_offset f)) contents ≡ f
  unfolding frame_bytes
  bytes_same = rw (body_same, ← last_byte f z) (take-append-drop (length f - 1) f)

  -- the places that were read
  addresses-same : Agree (destination_at (drop destinations_offset f)) (element_at zero_address (destinations_of f).addresses) (count_of f)
  addresses-same = rw (destinations-taken f z) (row_at 63 zero_address (destination_at (drop destinations_offset f)) (count_of f))

  values_same : values_refusal (fields_of f) (length_of f) (element_at zero_address (destinations_of f).addresses) ≡ 0
  unfolding frame_refusal fields_of
  values_same =
      sym (values_agree (fields_of f) (length_of f) (destination_at (drop destinations_offset f)) (element_at zero_address (destinations_of f).addresses) addresses-same)
      ∙ (or-pass (whole_refusal f) _ z).1

  pub taken-again : (room : ℕ) → length f ≤ room → frame_write_refusal (fields_of f) (element_at zero_address (destinations_of f).addresses) (length (contents_of f)) room ≡ 0
  unfolding fields_of
  taken-again room h = rw (contents-long f z) (sym (write-fits (fields_of f) _ (length_of f) room values_same (omega (arith, sized))))

  pub bytes-again : frame_bytes (fields_of f) (element_at zero_address (destinations_of f).addresses) (contents_of f) ≡ f
  unfolding contents fields_of
  bytes-again =
      rw (contents-taken f z) (sym (bytes-agree (fields_of f) (destination_at (drop destinations_offset f)) _ addresses-same _) ∙ bytes_same)
