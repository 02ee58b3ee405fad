-- What reading into an image and writing from one say taken together. proofs/Promises.antt has the theorems.
use Rattle.std.specs.Prelude.{ℕ, ◌+◌, ◌*◌, ◌<◌, ◌≤◌, ◌≡◌, true, List, [], ◌∷◌, ◌++◌, length, take, drop}
use Rattle.lists.specs.Refusals.{among}
use Rattle.buffer.specs.Bytes.{Bytes, word_at}
use Rattle.envelope_read.specs.Parts.{contents_of}
use Rattle.envelope_image.specs.Image.{envelope_size, fields_in, destination_held}
use Rattle.envelope_door.specs.Calls.{pz_read_refusal, pz_read_image, pz_write_refusal, pz_write_count, pz_write_frame}

-- writing undoes reading: the image that was written of a frame, read again beside the frame's contents, is the frame again
pub record ImageWrittenBack (f b out : List ℕ) : Type 0 where
  pub refusal : pz_write_refusal (pz_read_image f b) (length (contents_of f)) (length out) ≡ 0
  pub written : pz_write_count (pz_read_image f b) (length (contents_of f)) (length out) ≡ length f
  pub frame : pz_write_frame (pz_read_image f b) (contents_of f) out ≡ f ++ drop (length f) out

abbrev pub ImageWriteUndoesRead : Type 0
ImageWriteUndoesRead = (f b out : List ℕ) → Bytes f → pz_read_refusal f (length b) ≡ 0 → length f ≤ length out → ImageWrittenBack f b out

-- the frame that was written of an image b and the contents l: the bytes that `written` counts
abbrev pub pz_written : List ℕ → List ℕ → List ℕ → List ℕ
pz_written b l out = take (pz_write_count b (length l) (length out)) (pz_write_frame b l out)

-- reading undoes writing: it is read into any image that is long enough as all that the writer looked at, beside the contents' length and where they begin
pub record ImageReadBack (b l out c : List ℕ) : Type 0 where
  pub refusal : pz_read_refusal (pz_written b l out) (length c) ≡ 0
  pub contents : contents_of (pz_written b l out) ≡ l
  pub fields : fields_in (pz_read_image (pz_written b l out) c) ≡ fields_in b
  pub destinations : (i : ℕ) → i < (fields_in b).count → destination_held (pz_read_image (pz_written b l out) c) i ≡ destination_held b i
  pub long : word_at (pz_read_image (pz_written b l out) c) 5 ≡ length l
  pub begins : word_at (pz_read_image (pz_written b l out) c) 13 ≡ 9 + 3 * (fields_in b).count

abbrev pub ImageReadUndoesWrite : Type 0
ImageReadUndoesWrite = (b l out c : List ℕ) → pz_write_refusal b (length l) (length out) ≡ 0 → envelope_size ≤ length c → ImageReadBack b l out c

-- the numbers that the two calls give
abbrev pub pz_read_refusals : List ℕ
pz_read_refusals = 0 ∷ 1 ∷ 2 ∷ 3 ∷ 4 ∷ 7 ∷ 8 ∷ 9 ∷ 10 ∷ []

abbrev pub PzReadNumbers : Type 0
PzReadNumbers = (f : List ℕ) → Bytes f → (m : ℕ) → among (pz_read_refusal f m) pz_read_refusals ≡ true

abbrev pub pz_write_refusals : List ℕ
pz_write_refusals = 0 ∷ 4 ∷ 5 ∷ 6 ∷ 7 ∷ 8 ∷ 9 ∷ 10 ∷ []

abbrev pub PzWriteNumbers : Type 0
PzWriteNumbers = (b : List ℕ) (n room : ℕ) → among (pz_write_refusal b n room) pz_write_refusals ≡ true
