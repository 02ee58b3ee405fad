-- The bytes of an envelope that the writer takes are accepted, and the readers give the envelope back.
use Prim.Native.Nat.{ℕ, ◌+◌, ◌*◌, ◌/◌, ◌%◌, ◌-◌, ◌<◌}
use mathlib.Core.Path.{◌≡◌, refl, sym, ap, ◌∙◌}
use mathlib.Core.List.{List, [], ◌∷◌, ◌++◌, append_assoc}
use mathlib.Core.Bool.{Bool, true, false, cond}
use native.Mathlib.Omega.{arith}
use native.Mathlib.Nat.{add-zero}
use lib.Dec.{eqb}
use lib.ListN.{length, get_or, take, drop, length-append, get_or-append}
use lib.Seq.{take_at, drop_at, get_or_at, get_or-append-add}
use borrow.Author.Tests.{le-ltb, eq-eqb, ne_eqb}
use Rattle.buffer.specs.Bytes.{word_at}
use Rattle.lists.specs.Places.{repeats, row, joined}
use Rattle.lists.proofs.Places.{Agree, row-agree, joined_at}
use Rattle.address.specs.declared.Address.{Address}
use Rattle.address.specs.Address.{in_range, same_address, zero_address}
use Rattle.address_bytes.specs.Packed.{packed_bytes, packed_in}
use Rattle.address_bytes.proofs.PackedLaws.{undo}
use Rattle.envelope.specs.declared.Fixed.{Fixed}
use Rattle.envelope_read.specs.Read.{Envelope}
use Rattle.envelope.specs.Frame.{destinations_offset, prot_offset, contents_offset, count_of, length_of, size_of, fields_of, destination_at, check_of, with_length}
use Rattle.envelope.specs.Refusal.{out_of_range, whole_refusal, values_refusal_by, values_refusal, frame_refusal}
use Rattle.envelope_read.specs.Read.{read_frame_of}
use Rattle.envelope_read.specs.Parts.{contents_of, destinations_of}
use Rattle.envelope.proofs.Laws.{values_agree, Valued, valued, outside-false, Ranged, ranged, version-small}
use Rattle.envelope_read.proofs.Laws.{read_whole}
use Rattle.envelope_read.proofs.PartsLaws.{contents-taken, destinations-taken}
use Rattle.envelope_write.specs.Write.{frame_head, frame_mid, frame_body, frame_bytes}
use Rattle.envelope_write.proofs.Laws.{length-pack, length-head, length-mid, length-packs, length-body, length-bytes}

-- an address is read from its three bytes, wherever they stand
unpack-back : (a : Address) (l : List ℕ) (at : ℕ) → in_range a ≡ true
    → get_or l at 0 ≡ get_or (packed_bytes a) 0 0 → get_or l (at + 1) 0 ≡ get_or (packed_bytes a) 1 0 → get_or l (at + 2) 0 ≡ get_or (packed_bytes a) 2 0 → packed_in l at ≡ a
unpack-back a l at h p0 p1 p2 = rw (p0, p1, p2) (undo.read a h [])

-- the word of <ack&seq>
ack-back : (s : ℕ) (a : Bool) → eqb ((s * 2 + cond a 1 0) % 2) 1 ≡ a
ack-back s true = eq-eqb ((s * 2 + 1) % 2) 1 (omega arith)
ack-back s false = ne_eqb ((s * 2 + 0) % 2) 1 (omega arith)

seq-back : (s : ℕ) (a : Bool) → (s * 2 + cond a 1 0) / 2 ≡ s
seq-back s true = omega arith
seq-back s false = omega arith

module _ (e : Fixed) (d : ℕ → Address) (l : List ℕ) (z : values_refusal e (length l) d ≡ 0) where
  v : Valued e (length l) (out_of_range e d) (repeats same_address d e.count)
  v = valued _ _ _ _ z

  r : Ranged e d
  r = ranged e d v.inside

  f : List ℕ
  f = frame_bytes e d l

  -- what follows the head, what follows the destinations, what follows the fixed fields
  after-contents : List ℕ
  after-contents = l ++ (check_of (frame_body e d l) ∷ [])

  after-packs : List ℕ
  after-packs = frame_mid e ++ after-contents

  after-head : List ℕ
  after-head = joined packed_bytes d e.count ++ after-packs

  f-head : f ≡ frame_head e (length l) ++ after-head
  unfolding f after-head after-packs after-contents frame_bytes frame_body
  f-head = simp append_assoc

  word-3 : word_at f 3 ≡ length l * 64 + e.count
  unfolding frame_head
  word-3 = rw f-head (omega arith)

  count-back : count_of f ≡ e.count
  unfolding count_of
  count-back = rw word-3 (omega (arith, outside-false 63 _ v.counted))

  length_back : length_of f ≡ length l
  unfolding length_of
  length_back = rw word-3 (omega (arith, outside-false 63 _ v.counted))

  size_back : size_of f ≡ length f
  unfolding f
  size_back = rw (count-back, length_back, length-bytes e d l)

  -- the source and the destinations
  source-back : packed_in f 0 ≡ e.source
  unfolding frame_head
  source-back = rw f-head (undo.read e.source r.source_in [])

  part-back : drop destinations_offset f ≡ after-head
  unfolding frame_head
  part-back = rw f-head

  destination-back : Agree (destination_at (drop destinations_offset f)) d e.count
  unfolding destination_at after-head
  destination-back i h =
      let p : List ℕ = joined packed_bytes d e.count ++ after-packs in
      rw part-back
      (unpack-back (d i) p (3 * i) (r.destination-in i h)
      (ap (λ (k : ℕ). get_or p k 0) (sym (add-zero (3 * i))) ∙ joined_at packed_bytes 3 length-pack d e.count i 0 h (omega arith) after-packs)
      (joined_at packed_bytes 3 length-pack d e.count i 1 h (omega arith) after-packs)
      (joined_at packed_bytes 3 length-pack d e.count i 2 h (omega arith) after-packs))

  -- the fields after them
  front : List ℕ
  front = frame_head e (length l) ++ joined packed_bytes d e.count

  length_front : length front ≡ 5 + 3 * e.count
  unfolding front
  length_front = simp (length-append, length-head, length-packs)

  f-front : f ≡ front ++ after-packs
  unfolding f front after-packs after-contents frame_bytes frame_body
  f-front = simp append_assoc

  mid_at : (k : ℕ) → k < 4 → get_or f (prot_offset (count_of f) + k) 0 ≡ get_or (frame_mid e) k 0
  unfolding after-packs
  mid_at k h =
      let s : prot_offset (count_of f) + k ≡ length front + k = omega (arith, count-back, length_front) in
      rw (s, f-front, get_or-append-add) (get_or-append (frame_mid e) after-contents 0 k (omega (arith, length-mid e)))

  prot-back : get_or f (prot_offset (count_of f)) 0 ≡ e.priority * 16 + e.version
  unfolding frame_mid
  prot-back = ap (λ (k : ℕ). get_or f k 0) (sym (add-zero (prot_offset (count_of f)))) ∙ mid_at 0 (omega arith)

  seq-word : word_at f (prot_offset (count_of f) + 1) ≡ e.seq.0 * 2 + cond e.ack 1 0
  unfolding frame_mid
  seq-word =
      let s : prot_offset (count_of f) + 1 + 1 ≡ prot_offset (count_of f) + 2 = omega arith in
      rw (s, mid_at 1 (omega arith), mid_at 2 (omega arith)) (omega arith)

  fields_back : fields_of f ≡ with_length e (length l)
  unfolding fields_of frame_mid
  fields_back =
      let p : get_or f (prot_offset (count_of f)) 0 / 16 ≡ e.priority = omega (arith, prot-back, version-small _ _ v.versioned) in
      let q : get_or f (prot_offset (count_of f)) 0 % 16 ≡ e.version = omega (arith, prot-back, version-small _ _ v.versioned) in
      let a : eqb (word_at f (prot_offset (count_of f) + 1) % 2) 1 ≡ e.ack = rw seq-word (ack-back e.seq.0 e.ack) in
      let s : word_at f (prot_offset (count_of f) + 1) / 2 ≡ e.seq.0 = rw seq-word (seq-back e.seq.0 e.ack) in
      let k : get_or f (prot_offset (count_of f) + 3) 0 ≡ e.kind = mid_at 3 (omega arith) in
      λ i. record {
        source = source-back i;
        count = count-back i;
        length = length_back i;
        priority = p i;
        version = q i;
        ack = a i;
        seq = record { 0 = s i };
        kind = k i;
      }

  -- the contents
  before : List ℕ
  before = front ++ frame_mid e

  length_before : length before ≡ 9 + 3 * e.count
  unfolding before
  length_before = simp length-append (omega (arith, length_front, length-mid e))

  f-before : f ≡ before ++ after-contents
  unfolding before after-packs
  f-before = f-front ∙ sym (append_assoc front (frame_mid e) after-contents)

  contents-back : take (length_of f) (drop (contents_offset (count_of f)) f) ≡ l
  unfolding after-contents
  contents-back =
      rw (length_back, count-back, f-before, drop_at before after-contents (9 + 3 * e.count) length_before)
      (take_at l (check_of (frame_body e d l) ∷ []) (length l) refl)

  -- the check character
  body-length : length f - 1 ≡ 9 + 3 * e.count + length l
  unfolding f
  body-length = omega (arith, length-bytes e d l)

  body_back : take (9 + 3 * e.count + length l) f ≡ frame_body e d l
  unfolding f frame_bytes
  body_back = take_at (frame_body e d l) (check_of (frame_body e d l) ∷ []) (9 + 3 * e.count + length l) (length-body e d l)

  last-back : get_or f (9 + 3 * e.count + length l) 0 ≡ check_of (frame_body e d l)
  unfolding f frame_bytes
  last-back = get_or_at (frame_body e d l) (check_of (frame_body e d l)) [] 0 (9 + 3 * e.count + length l) (length-body e d l)

  check-back : check_of (take (length f - 1) f) ≡ get_or f (length f - 1) 0
  check-back = rw (body-length, body_back, last-back)

  -- so nothing is refused
  frame_back : whole_refusal f ≡ 0
  unfolding whole_refusal
  frame_back =
      simp (
        le-ltb (length f) (size_of f) (omega (arith, size_back)),
        le-ltb (size_of f) (length f) (omega (arith, size_back)),
        eq-eqb (check_of (take (length f - 1) f)) (get_or f (length f - 1) 0) check-back,
      )

  values-back : values_refusal (with_length e (length l)) (length l) d ≡ 0
  unfolding values_refusal_by out_of_range
  values-back = z

  accepted-back : frame_refusal f ≡ 0
  unfolding frame_refusal
  accepted-back =
      rw (frame_back, fields_back, length_back, values_agree (with_length e (length l)) (length l) (destination_at (drop destinations_offset f)) d destination-back)
      values-back

  pub fields_read : read_frame_of (frame_bytes e d l) ≡ Envelope (with_length e (length l))
  unfolding f
  fields_read = sym (read_whole f accepted-back (sym fields_back))

  pub contents-read : contents_of (frame_bytes e d l) ≡ l
  unfolding f
  contents-read = contents-taken f accepted-back ∙ contents-back

  pub destinations-read : destinations_of (frame_bytes e d l) ≡ record { count = e.count; addresses = row 63 zero_address d e.count }
  unfolding f
  destinations-read =
      destinations-taken f accepted-back
      ∙ rw (count-back, row-agree 63 zero_address (destination_at (drop destinations_offset f)) d e.count destination-back)
