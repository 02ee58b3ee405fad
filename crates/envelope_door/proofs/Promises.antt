-- The theorems of reading into an image and writing from it. An image holds all that the writer looks at.
use Prim.Native.Nat.{ℕ, ◌<◌, ◌≤◌}
use mathlib.Core.Path.{◌≡◌, refl, sym, ap, ap₂, ◌∙◌}
use mathlib.Core.Bool.{Bool, true, false, cond}
use mathlib.Core.List.{List, ◌++◌}
use native.Mathlib.Omega.{arith}
use lib.Dec.{ltb}
use lib.ListN.{length, get_or, take, drop, length-append}
use borrow.Author.Tests.{le-ltb, ltb-false}
use Rattle.buffer.specs.Bytes.{Bytes, word_at}
use Rattle.buffer.proofs.Writing.{wrote-taken}
use Rattle.lists.specs.Places.{element_at}
use Rattle.lists.proofs.Places.{Agree, row_at}
use Rattle.lists.proofs.Refusals.{pass, or-pass, taken}
use Rattle.address.specs.declared.Address.{Address}
use Rattle.address.specs.Address.{zero_address}
use Rattle.envelope.specs.declared.Fixed.{Fixed}
use Rattle.envelope.specs.Frame.{destinations_offset, count_of, fields_of, destination_at, with_length}
use Rattle.envelope.specs.Refusal.{outside, out_of_range, values_refusal_by, frame_refusal}
use Rattle.envelope.proofs.Laws.{count-le}
use Rattle.envelope_read.specs.declared.Destinations.{Destinations}
use Rattle.envelope_read.specs.Read.{read_frame_of}
use Rattle.envelope_read.specs.Parts.{contents_of, destinations_of}
use Rattle.envelope_read.proofs.Laws.{Opened, read_whole, read-envelope}
use Rattle.envelope_read.proofs.PartsLaws.{destination-taken}
use Rattle.envelope_write.specs.Refusal.{size_for, frame_write_refusal}
use Rattle.envelope_write.specs.Write.{frame_head, frame_mid, frame_body, frame_bytes, write_frame_of, after_of}
use Rattle.envelope_write.specs.Promises.{FrameReadBack, FrameWrittenBack}
use Rattle.envelope_write.proofs.RefuseLaws.{write-agree, ready}
use Rattle.envelope_write.proofs.Laws.{after-agree, wrote}
use Rattle.envelope_write.proofs.Promises.{write_undoes_read as frame-undoes, read_undoes_write as frame-read-undoes}
use Rattle.envelope_image.specs.Image.{envelope_bytes, fields_in, destination_held}
use Rattle.envelope_image.proofs.Undo.{envelope-undo}
use Rattle.envelope_door.specs.Calls.{stray_ack, pz_read_refusal, pz_read_image, pz_write_refusal, pz_write_count}
use Rattle.envelope_door.specs.Promises.{ImageWrittenBack, ImageWriteUndoesRead, pz_written, ImageReadBack, ImageReadUndoesWrite}
use Rattle.envelope_door.proofs.Writing.{stray-some, by-writer, buffer-by-writer}

module _ (f b out : List ℕ) (bytes : Bytes f) (z : pz_read_refusal f (length b) ≡ 0) (room : length f ≤ length out) where
  -- the destinations as the readers of the frame's parts give them, and as they stand in the frame
  d : ℕ → Address
  d = element_at zero_address (destinations_of f).addresses

  at : ℕ → Address
  at = destination_at (drop destinations_offset f)

  none : frame_refusal f ≡ 0
  unfolding pz_read_refusal
  none = (or-pass (frame_refusal f) _ z).0

  image-long : 267 ≤ length b
  unfolding pz_read_refusal
  image-long = ltb-false (length b) 267 (pass 9 (ltb (length b) 267) 0 (or-pass (frame_refusal f) _ z).1).0

  image : List ℕ
  image = envelope_bytes (fields_of f) at ++ drop 267 b

  image-is : pz_read_image f b ≡ image
  unfolding pz_read_image image at
  image-is =
      let s = envelope-undo.size (fields_of f) at in
      taken _ _ z ∙ rw s

  -- the writer does not look at the length of the fields, and the image holds all the rest
  addresses-same : Agree (destination_held image) d (fields_of f).count
  unfolding fields_of image d at
  addresses-same i h = envelope-undo.destinations (fields_of f) at (drop 267 b) i h (omega (arith, count-le f)) ∙ destination-taken f none i h

  again : FrameWrittenBack f (fields_of f) out
  again = frame-undoes f bytes (fields_of f) (sym (read_whole f none refl)) out room

  refusal-same : frame_write_refusal (with_length (fields_of f) 0) (destination_held image) (length (contents_of f)) (length out) ≡ 0
  unfolding d frame_write_refusal values_refusal_by out_of_range
  refusal-same =
      write-agree (with_length (fields_of f) 0) _ d addresses-same (length (contents_of f)) (length out)
      ∙ (wrote (fields_of f) d (length (contents_of f)) (length out) again.answer).0

  buffer-same : after_of (with_length (fields_of f) 0) (destination_held image) (contents_of f) out ≡ f ++ drop (length f) out
  unfolding d after_of frame_write_refusal values_refusal_by out_of_range frame_bytes frame_body frame_head frame_mid
  buffer-same = after-agree (with_length (fields_of f) 0) _ d addresses-same (contents_of f) out ∙ again.bytes

  long-enough : 267 ≤ length image
  unfolding image at
  long-enough = simp length-append (omega (arith, envelope-undo.size (fields_of f) at))

  count_same : get_or image 9 0 ≤ 1 → fields_in image ≡ with_length (fields_of f) 0 → pz_write_count image (length (contents_of f)) (length out) ≡ length f
  unfolding pz_write_count d
  count_same small back =
      taken _ _ (by-writer image (contents_of f) out long-enough small ∙ rw back refusal-same)
      ∙ rw back (sym (wrote (fields_of f) d (length (contents_of f)) (length out) again.answer).1)

  undone : ImageWrittenBack f b out
  unfolding image at
  undone =
      let small = envelope-undo.ack (fields_of f) at (drop 267 b) in
      let back = envelope-undo.fields (fields_of f) at (drop 267 b) in
      record {
        refusal = rw image-is (by-writer image (contents_of f) out long-enough small ∙ rw back refusal-same);
        written = rw image-is (count_same small back);
        frame = rw image-is (buffer-by-writer image (contents_of f) out long-enough small ∙ rw back buffer-same);
      }

-- an accepted frame of bytes, read into an image and written again into any buffer with room
pub write_undoes_read : ImageWriteUndoesRead
write_undoes_read = undone

-- ---- an image written as a frame and read again

module _ (b l out c : List ℕ) (z : pz_write_refusal b (length l) (length out) ≡ 0) (room : 267 ≤ length c) where
  e : Fixed
  e = fields_in b

  frame : List ℕ
  frame = pz_written b l out

  -- a writer that refuses nothing was given an image that is long enough, with an ack byte that is one
  held : 267 ≤ length b
  unfolding pz_write_refusal
  held = ltb-false (length b) 267 (pass 9 (ltb (length b) 267) _ z).0

  bit : get_or b 9 0 ≤ 1
  unfolding pz_write_refusal stray_ack
  bit = go (ltb 1 (get_or b 9 0)) refl (pass 9 (ltb (length b) 267) _ z).1
    where
      go : (s : Bool) → ltb 1 (get_or b 9 0) ≡ s → cond s (stray_ack (fields_in b).count (length l)) (frame_write_refusal (fields_in b) (destination_held b) (length l) (length out)) ≡ 0 → get_or b 9 0 ≤ 1
      go true q h = absurd (stray-some (outside 63 (fields_in b).count) (ltb 1023 (length l)) h)
      go false q h = ltb-false 1 (get_or b 9 0) q

  taken-there : frame_write_refusal e (destination_held b) (length l) (length out) ≡ 0
  unfolding e
  taken-there = sym (by-writer b l out held bit) ∙ z

  back : FrameReadBack e (destination_held b) l out (size_for e (length l))
  unfolding write_frame_of
  back = frame-read-undoes e (destination_held b) l out (size_for e (length l)) (sym (wrote-taken _ taken-there))

  frame_is : frame ≡ take (size_for e (length l)) (after_of e (destination_held b) l out)
  unfolding frame pz_write_count e
  frame_is = ap₂ take (taken _ _ z) (buffer-by-writer b l out held bit)

  opened : Opened (frame_refusal frame) (with_length e (length l)) (fields_of frame)
  opened = read-envelope frame (with_length e (length l)) (sym (ap read_frame_of frame_is ∙ back.fields))

  read_taken : pz_read_refusal frame (length c) ≡ 0
  unfolding pz_read_refusal
  read_taken = rw (opened.none, le-ltb (length c) 267 room)

  image-of : List ℕ
  image-of = envelope_bytes (with_length e (length l)) (destination_at (drop destinations_offset frame)) ++ drop 267 c

  image-read : pz_read_image frame c ≡ image-of
  unfolding pz_read_image image-of
  image-read =
      let s = envelope-undo.size (with_length e (length l)) (destination_at (drop destinations_offset frame)) in
      taken _ _ read_taken ∙ rw (← opened.same) (rw s)

  destination-read : (i : ℕ) → i < e.count → destination_at (drop destinations_offset frame) i ≡ destination_held b i
  unfolding fields_of
  destination-read i h =
      let n : count_of frame ≡ e.count = ap (λ (x : Fixed). x.count) (sym opened.same) in
      destination-taken frame opened.none i (rw n h)
      ∙ ap (λ (x : Destinations). element_at zero_address x.addresses i) (ap destinations_of frame_is ∙ back.destinations)
      ∙ sym (row_at 63 zero_address (destination_held b) e.count i h)

  few : e.count ≤ 63
  few = (ready e (destination_held b) (length l) (length out) taken-there).counted

  read_back : ImageReadBack b l out c
  unfolding frame image-of e fields_in
  read_back =
      let d = destination_at (drop destinations_offset frame) in
      record {
        refusal = read_taken;
        contents = ap contents_of frame_is ∙ back.contents;
        fields = ap fields_in image-read ∙ envelope-undo.fields (with_length e (length l)) d (drop 267 c);
        destinations = λ i h.
            ap (λ (x : List ℕ). destination_held x i) image-read
            ∙ envelope-undo.destinations (with_length e (length l)) d (drop 267 c) i h (omega (arith, few))
            ∙ destination-read i h;
        long = ap (λ (x : List ℕ). word_at x 5) image-read ∙ envelope-undo.long (with_length e (length l)) d (drop 267 c);
        begins = ap (λ (x : List ℕ). word_at x 13) image-read ∙ envelope-undo.begins (with_length e (length l)) d (drop 267 c);
      }

pub read_undoes_write : ImageReadUndoesWrite
read_undoes_write = read_back
