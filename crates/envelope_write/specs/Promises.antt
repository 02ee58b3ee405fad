-- Demand 2, envelopes are read and written and each undoes the other: what that says of the definitions. proofs/Promises.antt has the theorems.
use Rattle.std.specs.Prelude.{ℕ, ◌≤◌, true, ◌≡◌, List, [], ◌∷◌, ◌++◌, length, take, drop}
use Rattle.lists.specs.Places.{element_at, row}
use Rattle.lists.specs.Refusals.{among}
use Rattle.buffer.specs.Bytes.{Bytes}
use Rattle.address.specs.declared.Address.{Address}
use Rattle.address.specs.Address.{zero_address}
use Rattle.envelope.specs.declared.Fixed.{Fixed}
use Rattle.envelope.specs.Frame.{with_length}
use Rattle.envelope_read.specs.Read.{Envelope}
use Rattle.envelope_read.specs.Read.{read_frame_of}
use Rattle.envelope_read.specs.Parts.{contents_of, destinations_of}
use Rattle.buffer.specs.Writing.{Wrote}
use Rattle.envelope_write.specs.Refusal.{frame_write_refusal}
use Rattle.envelope_write.specs.Write.{write_frame_of, after_of}

-- reading undoes writing: of the n bytes that were written, the readers give the values back, apart from what the writer does not look at
pub record FrameReadBack (e : Fixed) (d : ℕ → Address) (l out : List ℕ) (n : ℕ) : Type 0 where
  pub fields : read_frame_of (take n (after_of e d l out)) ≡ Envelope (with_length e (length l))
  pub contents : contents_of (take n (after_of e d l out)) ≡ l
  pub destinations : destinations_of (take n (after_of e d l out)) ≡ record { count = e.count; addresses = row 63 zero_address d e.count }

abbrev pub ReadUndoesWrite : Type 0
ReadUndoesWrite = (e : Fixed) (d : ℕ → Address) (l out : List ℕ) (n : ℕ) → write_frame_of e d (length l) (length out) ≡ Wrote n → FrameReadBack e d l out n

-- writing undoes reading: what the readers gave of a frame is taken by the writer in any buffer with room, and its bytes are the frame
pub record FrameWrittenBack (f : List ℕ) (e : Fixed) (out : List ℕ) : Type 0 where
  pub answer : write_frame_of e (element_at zero_address (destinations_of f).addresses) (length (contents_of f)) (length out) ≡ Wrote (length f)
  pub bytes : after_of e (element_at zero_address (destinations_of f).addresses) (contents_of f) out ≡ f ++ drop (length f) out

abbrev pub WriteUndoesRead : Type 0
WriteUndoesRead = (f : List ℕ) → Bytes f → (e : Fixed) → read_frame_of f ≡ Envelope e → (out : List ℕ) → length f ≤ length out → FrameWrittenBack f e out

-- the numbers that the writer gives. Not 1 to 3: it works from values, and not from a frame
abbrev pub writer_refusals : List ℕ
writer_refusals = 0 ∷ 4 ∷ 5 ∷ 6 ∷ 7 ∷ 8 ∷ 9 ∷ 10 ∷ []

abbrev pub WriterNumbers : Type 0
WriterNumbers = (e : Fixed) (d : ℕ → Address) (n room : ℕ) → among (frame_write_refusal e d n room) writer_refusals ≡ true

-- the largest frame has 63 destinations and L bytes of contents
abbrev pub FramesShort : Type 0
FramesShort = (e : Fixed) (d : ℕ → Address) (n room k : ℕ) → write_frame_of e d n room ≡ Wrote k → k ≤ 1222
