-- Laws of the writer: the stores that make a frame, its length, and what a refusal says.
use Prim.Native.Nat.{ℕ, ◌+◌, ◌*◌, ◌≤◌}
use mathlib.Core.Path.{◌≡◌, refl, sym, ap, ◌∙◌}
use mathlib.Core.List.{List, [], ◌∷◌, ◌++◌}
use native.Mathlib.Omega.{arith}
use lib.ListN.{length, take, drop, set, length-append}
use lib.Seq.{sets}
use Rattle.lists.specs.Places.{joined}
use Rattle.lists.specs.Refusals.{unless_refused}
use Rattle.lists.proofs.Places.{Agree, length-joined, joined-agree}
use Rattle.lists.proofs.Stores.{sets-append, sets-front, taken-front}
use Rattle.lists.proofs.Refusals.{taken, refused}
use Rattle.buffer.proofs.Writing.{wrote-refusal, wrote_count, wrote-size, wrote-taken, wrote-refused}
use Rattle.address.specs.declared.Address.{Address}
use Rattle.address_bytes.specs.Packed.{packed_bytes}
use Rattle.std.specs.Prelude.{Ok}
use Rattle.refusal.specs.Numbers.{Answers}
use Rattle.envelope.specs.declared.Fixed.{Fixed}
use Rattle.envelope.specs.Frame.{check_of}
use Rattle.buffer.specs.Writing.{Written, Wrote, Refused, written_refusal, written_count}
use Rattle.envelope_write.specs.Refusal.{size_for, frame_write_refusal}
use Rattle.envelope_write.proofs.RefuseLaws.{ready, write-agree}
use Rattle.envelope_write.specs.Promises.{FramesShort}
use Rattle.envelope_write.specs.Write.{frame_head, frame_mid, frame_body, frame_bytes, write_frame_of, after_of}

-- ---- the bytes of a frame

pub length-pack : (a : Address) → length (packed_bytes a) ≡ 3
length-pack a = refl

pub length-packs : (d : ℕ → Address) (n : ℕ) → length (joined packed_bytes d n) ≡ 3 * n
length-packs = length-joined packed_bytes 3 length-pack

pub length-head : (e : Fixed) (n : ℕ) → length (frame_head e n) ≡ 5
unfolding frame_head
length-head e n = refl

pub length-mid : (e : Fixed) → length (frame_mid e) ≡ 4
unfolding frame_mid
length-mid e = refl

module _ (e : Fixed) (d : ℕ → Address) (l : List ℕ) where
  pub length-body : length (frame_body e d l) ≡ 9 + 3 * e.count + length l
  unfolding frame_body
  length-body = simp (length-append, length-head, length-packs, length-mid) (omega arith)

  pub length-bytes : length (frame_bytes e d l) ≡ size_for e (length l)
  unfolding frame_bytes
  length-bytes = simp (length-append, length-body) (omega arith)

  -- the four runs of stores that make the body
  pub body-puts : (out : List ℕ)
      → sets (sets (sets (sets out 0 (frame_head e (length l))) 5 (joined packed_bytes d e.count)) (5 + 3 * e.count) (frame_mid e)) (5 + 3 * e.count + 4) l ≡ sets out 0 (frame_body e d l)
  unfolding frame_body
  body-puts out =
      let h : List ℕ = frame_head e (length l) in
      let p : List ℕ = joined packed_bytes d e.count in
      rw (
        sets-append h out 0 p 5 (rw (length-head e (length l)) refl),
        sets-append (h ++ p) out 0 (frame_mid e) (5 + 3 * e.count) (simp (length-append, length-head, length-packs) (omega arith)),
        sets-append (h ++ p ++ frame_mid e) out 0 l (5 + 3 * e.count + 4) (simp (length-append, length-head, length-packs, length-mid) (omega arith)),
      )

  -- what stands before the check character, once the body is stored
  pub body-stored : (out : List ℕ) → 9 + 3 * e.count + length l ≤ length out → take (9 + 3 * e.count + length l) (sets out 0 (frame_body e d l)) ≡ frame_body e d l
  body-stored out h = taken-front out (frame_body e d l) (9 + 3 * e.count + length l) (sym length-body) h

  -- the check character after it
  pub frame-puts : (out : List ℕ) → set (sets out 0 (frame_body e d l)) (9 + 3 * e.count + length l) (check_of (frame_body e d l)) ≡ sets out 0 (frame_bytes e d l)
  unfolding frame_bytes
  frame-puts out = sets-append (frame_body e d l) out 0 (check_of (frame_body e d l) ∷ []) (9 + 3 * e.count + length l) (rw length-body (omega arith))

  pub bytes-stored : (out : List ℕ) → size_for e (length l) ≤ length out → sets out 0 (frame_bytes e d l) ≡ frame_bytes e d l ++ drop (length (frame_bytes e d l)) out
  bytes-stored out h = sets-front out (frame_bytes e d l) (rw length-bytes h)

-- two ways to give the destinations that agree
module _ (e : Fixed) (d d' : ℕ → Address) (a : Agree d d' e.count) where
  pub bytes-agree : (l : List ℕ) → frame_bytes e d l ≡ frame_bytes e d' l
  unfolding frame_bytes frame_body
  bytes-agree l = rw (joined-agree packed_bytes d d' e.count a)

  pub after-agree : (l out : List ℕ) → after_of e d l out ≡ after_of e d' l out
  unfolding after_of
  after-agree l out = rw (write-agree e d d' a (length l) (length out), bytes-agree l)

-- an answer that says how many bytes were written is no refusal, and the number is the frame's size
pub wrote : (e : Fixed) (d : ℕ → Address) (n room : ℕ) {k : ℕ} → write_frame_of e d n room ≡ Wrote k → (frame_write_refusal e d n room ≡ 0) × (k ≡ size_for e n)
unfolding write_frame_of
wrote e d n room {k} h = wrote-size k (frame_write_refusal e d n room) (size_for e n) h

-- the largest frame: 63 destinations and L bytes of contents
pub frames-short : FramesShort
frames-short e d n room k h =
    let w = wrote e d n room h in
    let r = ready e d n room w.0 in
    omega (arith, w.1, r.counted, r.short)

-- the same of the writer's answer as the code has it
pub written-short : (e : Fixed) (d : ℕ → Address) (n room k : ℕ) → Answers (Ok k) (frame_write_refusal e d n room) (size_for e n) → k ≤ 1222
written-short e d n room k h = let r = ready e d n room h.0 in omega (arith, h.1, r.counted, r.short)

-- ---- all that the writer promises, from its refusal

pub record Told (e : Fixed) (d : ℕ → Address) (l out : List ℕ) (r : Written) (after : List ℕ) : Type 0 where
  pub answer : r ≡ write_frame_of e d (length l) (length out)
  pub buffer : after ≡ after_of e d l out

module _ (e : Fixed) (d : ℕ → Address) (l out : List ℕ) where
  pub after-refused : (frame_write_refusal e d (length l) (length out) ≡ 0 → ⊥) → out ≡ after_of e d l out
  unfolding after_of
  after-refused h = sym (refused _ _ (frame_write_refusal e d (length l) (length out)) h)

  pub after-written : frame_write_refusal e d (length l) (length out) ≡ 0 → frame_bytes e d l ++ drop (length (frame_bytes e d l)) out ≡ after_of e d l out
  unfolding after_of
  after-written z = sym (taken _ _ z)

  pub write-told : {r : Written} → r ≡ write_frame_of e d (length l) (length out)
      → (written_refusal r ≡ frame_write_refusal e d (length l) (length out)) × (written_count r ≡ unless_refused (frame_write_refusal e d (length l) (length out)) (size_for e (length l)) 0)
  unfolding write_frame_of
  write-told h = (ap written_refusal h ∙ wrote-refusal _ _, ap written_count h ∙ wrote_count _ _)

  module _ {k : ℕ} (p : k ≡ frame_write_refusal e d (length l) (length out)) where
    pub write-refused : (k ≡ 0 → ⊥) → Told e d l out (Refused k) out
    unfolding write_frame_of
    write-refused h = record { answer = rw (← p) (wrote-refused k _ h); buffer = after-refused (λ z. h (p ∙ z)) }

    pub write-wrote : k ≡ 0 → Told e d l out (Wrote (size_for e (length l))) (frame_bytes e d l ++ drop (length (frame_bytes e d l)) out)
    unfolding write_frame_of
    write-wrote z = record { answer = rw (← p) (wrote-taken _ z); buffer = after-written (sym p ∙ z) }
