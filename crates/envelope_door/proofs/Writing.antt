-- Laws of writing from an image: what C gets, from the tests on the way.
use Prim.Native.Nat.{ℕ, ◌<◌, ◌≤◌, min}
use mathlib.Core.Path.{◌≡◌, sym, ◌∙◌}
use mathlib.Core.Bool.{Bool, true, false}
use mathlib.Core.List.{List}
use native.Mathlib.Omega.{arith}
use native.Mathlib.Decide.{dec_le}
use lib.Dec.{ltb}
use lib.ListN.{length, get_or}
use borrow.Author.Tests.{lt-ltb, le-ltb}
use Rattle.lists.specs.Places.{element_at, row}
use Rattle.lists.specs.Refusals.{refuse, unless_refused}
use Rattle.lists.proofs.Places.{Agree, row_at}
use Rattle.lists.proofs.Refusals.{refused}
use Rattle.address.specs.declared.Address.{Address}
use Rattle.address.specs.Address.{zero_address}
use Rattle.envelope.specs.declared.Fixed.{Fixed}
use Rattle.envelope.specs.Refusal.{outside}
use Rattle.envelope_write.specs.Refusal.{size_for, frame_write_refusal}
use Rattle.envelope_write.specs.Write.{after_of}
use Rattle.envelope_write.proofs.RefuseLaws.{count-refused, write-agree}
use Rattle.envelope_write.proofs.Laws.{after-agree}
use Rattle.envelope_image.specs.Image.{fields_in, destination_held}
use Rattle.envelope_door.specs.Calls.{stray_ack, pz_write_refusal, pz_write_count, pz_write_frame}

-- what C gets, of the image b, the contents l and the buffer out: the number r, the bytes written w and the buffer o
abbrev pub Says : List ℕ → List ℕ → List ℕ → ℕ → ℕ → List ℕ → Type 0
Says b l out r w o = (r ≡ pz_write_refusal b (length l) (length out)) × (w ≡ pz_write_count b (length l) (length out)) × (o ≡ pz_write_frame b l out)

-- a refusal of the writer leaves the buffer
after-refused : (e : Fixed) (d : ℕ → Address) (l out : List ℕ) → (frame_write_refusal e d (length l) (length out) ≡ 0 → ⊥) → after_of e d l out ≡ out
unfolding after_of
after-refused e d l out h = refused _ out _ h

-- a stray ack byte is refused by some number
pub stray-some : (x y : Bool) → refuse 4 x (refuse 5 y 6) ≡ 0 → ⊥
stray-some true y h = omega arith
stray-some false true h = omega arith
stray-some false false h = omega arith

module _ (b l out : List ℕ) where
  -- a refusal, whichever it is
  says-refused : {k : ℕ} → k ≡ pz_write_refusal b (length l) (length out) → (k ≡ 0 → ⊥) → Says b l out k 0 out
  unfolding pz_write_count pz_write_frame
  says-refused {k} p h = (p, rw (← p) (sym (refused _ 0 k h)), rw (← p) (sym (refused _ out k h)))

  pub write-image-short : length b < 267 → Says b l out 10 0 out
  unfolding pz_write_refusal
  write-image-short h = says-refused (rw (lt-ltb (length b) 267 h)) (λ z. omega arith)

  module _ (room : 267 ≤ length b) where
    pub write-stray : 1 < get_or b 9 0 → {k : ℕ} → k ≡ stray_ack (fields_in b).count (length l) → Says b l out k 0 out
    unfolding pz_write_refusal stray_ack
    write-stray h p =
        says-refused (p ∙ rw (le-ltb (length b) 267 room, lt-ltb 1 (get_or b 9 0) h)) (λ z. stray-some (outside 63 (fields_in b).count) (ltb 1023 (length l)) (sym p ∙ z))

    module _ (bit : get_or b 9 0 ≤ 1) where
      -- then the writer's own number and buffer are what C gets
      pub by-writer : pz_write_refusal b (length l) (length out) ≡ frame_write_refusal (fields_in b) (destination_held b) (length l) (length out)
      unfolding pz_write_refusal
      by-writer = rw (le-ltb (length b) 267 room, le-ltb 1 (get_or b 9 0) bit)

      pub buffer-by-writer : pz_write_frame b l out ≡ after_of (fields_in b) (destination_held b) l out
      unfolding pz_write_frame after_of
      buffer-by-writer = rw by-writer

      -- the places read from the image are its destinations, as far as the writer looks at them
      same-writing : (addresses : List Address) → addresses ≡ row 63 zero_address (destination_held b) (min (fields_in b).count 63)
          → (frame_write_refusal (fields_in b) (element_at zero_address addresses) (length l) (length out) ≡ frame_write_refusal (fields_in b) (destination_held b) (length l) (length out))
          × (after_of (fields_in b) (element_at zero_address addresses) l out ≡ after_of (fields_in b) (destination_held b) l out)
      same-writing addresses q = go (dec_le (fields_in b).count 63)
        where
          go : Dec ((fields_in b).count ≤ 63)
              → (frame_write_refusal (fields_in b) (element_at zero_address addresses) (length l) (length out) ≡ frame_write_refusal (fields_in b) (destination_held b) (length l) (length out))
              × (after_of (fields_in b) (element_at zero_address addresses) l out ≡ after_of (fields_in b) (destination_held b) l out)
          go (yes h) =
              let m : min (fields_in b).count 63 ≡ (fields_in b).count = omega arith in
              let g : Agree (element_at zero_address addresses) (destination_held b) (fields_in b).count = λ i k. rw (q, m) (sym (row_at 63 zero_address (destination_held b) (fields_in b).count i k)) in
              (write-agree (fields_in b) _ _ g _ _, after-agree (fields_in b) _ _ g l out)
          go (no h) =
              let c : 63 < (fields_in b).count = omega arith in
              let p = count-refused (fields_in b) (element_at zero_address addresses) (length l) (length out) c in
              let r = count-refused (fields_in b) (destination_held b) (length l) (length out) c in
              (sym p ∙ r, after-refused (fields_in b) _ l out (λ z. omega arith) ∙ sym (after-refused (fields_in b) _ l out (λ z. omega arith)))

      -- the writer's own answer, of the fields and the places in the image, is what C gets
      pub write_done : (addresses : List Address) {r w : ℕ} {o : List ℕ} → addresses ≡ row 63 zero_address (destination_held b) (min (fields_in b).count 63)
          → r ≡ frame_write_refusal (fields_in b) (element_at zero_address addresses) (length l) (length out)
          → w ≡ unless_refused (frame_write_refusal (fields_in b) (element_at zero_address addresses) (length l) (length out)) (size_for (fields_in b) (length l)) 0
          → o ≡ after_of (fields_in b) (element_at zero_address addresses) l out
          → Says b l out r w o
      unfolding pz_write_count
      write_done addresses q refusal count buffer =
          let s = same-writing addresses q in
          let t : frame_write_refusal (fields_in b) (element_at zero_address addresses) (length l) (length out) ≡ pz_write_refusal b (length l) (length out) = s.0 ∙ sym by-writer in
          (refusal ∙ t, count ∙ rw t, buffer ∙ s.1 ∙ sym buffer-by-writer)
