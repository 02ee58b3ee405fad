-- What the readers of a frame say taken together (document 01; document 02, Seven). proofs/Promises.antt and proofs/Places.antt have the theorems.
use Rattle.std.specs.Prelude.{ℕ, ◌+◌, ◌*◌, ◌<◌, ◌≤◌, true, ◌≡◌, List, [], ◌∷◌, ◌++◌, length, take, drop}
use Rattle.lists.specs.Refusals.{among}
use Rattle.buffer.specs.Bytes.{Bytes}
use Rattle.envelope.specs.declared.Fixed.{Fixed}
use Rattle.address.specs.declared.Address.{Address}
use Rattle.envelope.specs.Frame.{destinations_offset, length_of, count_of, destination_at, check_of}
use Rattle.envelope.specs.Refusal.{frame_refusal}
use Rattle.envelope.specs.Place.{frame_place}
use Rattle.envelope_read.specs.Read.{Envelope}
use Rattle.envelope_read.specs.Read.{read_frame_of}
use Rattle.envelope_read.specs.Parts.{contents_of, contents_offset_of}

-- the contents are exactly the frame's part: as long as <length> says, after the message type, before the check character
pub record ContentsPart (f : List ℕ) (e : Fixed) : Type 0 where
  pub long : length (contents_of f) ≡ e.length
  pub begins : contents_offset_of f ≡ 9 + 3 * e.count
  pub stands : f ≡ take (9 + 3 * e.count) f ++ (contents_of f ++ (check_of (take (9 + 3 * e.count + e.length) f) ∷ []))

abbrev pub ContentsStand : Type 0
ContentsStand = (f : List ℕ) (e : Fixed) → read_frame_of f ≡ Envelope e → ContentsPart f e

-- the numbers that a reader of bytes gives. Not 5: ten bits hold no more than L. Not 6: the bits of each field hold its range and no more,
-- and no bit is unused (A.4)
abbrev pub reader_refusals : List ℕ
reader_refusals = 0 ∷ 1 ∷ 2 ∷ 3 ∷ 4 ∷ 7 ∷ 8 ∷ 9 ∷ []

abbrev pub ReaderNumbers : Type 0
ReaderNumbers = (f : List ℕ) → Bytes f → among (frame_refusal f) reader_refusals ≡ true

-- ---- places

-- a place is in the frame or at its end, and at most 1,222, however long the input is; that of 1 is at most 1,221
pub record PlaceNear (f : List ℕ) : Type 0 where
  pub within : frame_place f ≤ length f
  pub small : frame_place f ≤ 1222
  pub short : frame_refusal f ≡ 1 → frame_place f ≤ 1221

abbrev pub PlacesNear : Type 0
PlacesNear = (f : List ℕ) → Bytes f → PlaceNear f

-- the destination at a place of a frame
abbrev pub destination_of : List ℕ → ℕ → Address
destination_of f i = destination_at (drop destinations_offset f) i

-- the destination at i equals the earlier one at j
pub record Twin (f : List ℕ) (i j : ℕ) : Type 0 where
  pub counts : i < count_of f
  pub earlier : j < i
  pub equal : destination_of f i ≡ destination_of f j

-- the first destination that equals an earlier one, and the place of its first byte
pub record TwinFound (f : List ℕ) : Type 0 where
  pub which : ℕ
  pub before : ℕ
  pub twin : Twin f which before
  pub first : (i j : ℕ) → Twin f i j → which ≤ i
  pub place : frame_place f ≡ 5 + 3 * which

-- what a place points at: the frame's end, the first byte too many, the check character, <dest_count>, <prot&priority>, the first destination that equals an
-- earlier one
pub record Points (f : List ℕ) : Type 0 where
  pub none : frame_refusal f ≡ 0 → frame_place f ≡ 0
  pub ends : frame_refusal f ≡ 1 → frame_place f ≡ length f
  pub over : frame_refusal f ≡ 2 → frame_place f ≡ 10 + 3 * count_of f + length_of f
  pub check : frame_refusal f ≡ 3 → frame_place f + 1 ≡ length f
  pub count : frame_refusal f ≡ 4 → frame_place f ≡ 4
  pub priority : frame_refusal f ≡ 7 → frame_place f ≡ 5 + 3 * count_of f
  pub twins : frame_refusal f ≡ 8 → TwinFound f
  pub version : frame_refusal f ≡ 9 → frame_place f ≡ 5 + 3 * count_of f

abbrev pub PlacesPoint : Type 0
PlacesPoint = (f : List ℕ) → Points f
