-- What mending says (document 02, Twelve). proofs/ has the theorems: Promises.antt, and Numbers.antt, Sizes.antt and Mending.antt those on 21 and 31, on sizes
-- and on the call.
use Rattle.std.specs.Prelude.{ℕ, ◌+◌, ◌%◌, ◌<◌, ◌≤◌, ◌≡◌, List, [], ◌∷◌, ◌++◌, Bool, true, false, ◌&&◌, ◌||◌, length, drop, get_or, eqb}
use Rattle.buffer.specs.Bytes.{word_at}
use Rattle.chart_read.specs.Fields.{question_tag, tag_at}
use Rattle.chart_read.specs.Reading.{SoFar, refused_at, at_end, read_chart_of}
use Rattle.chart_mend.specs.Mending.{Seen, fields_of, held_of, each, kept_of, entry_of, entry_size, kept_bytes, list_bytes, longest_input, mend_refusal, mend_of}

-- the reader takes what is kept, where a question is: the chart that it gives is the one that was held
abbrev pub KeptIsAccepted : Type 0
KeptIsAccepted = (bytes : List ℕ) → (held_of bytes).asked ≡ true → read_chart_of (kept_bytes bytes) ≡ record { refusal = 0; place = 0; chart = (held_of bytes).chart }

-- and where none is, the reader finds nothing but that: 31 at the end
abbrev pub KeptLacksQuestion : Type 0
KeptLacksQuestion = (bytes : List ℕ) → (held_of bytes).asked ≡ false → read_chart_of (kept_bytes bytes) ≡ refused_at 31 (length (kept_bytes bytes))

-- a chart that the reader takes is kept whole, with its question, and nothing is listed
pub record Whole (bytes : List ℕ) : Type 0 where
  pub kept : kept_bytes bytes ≡ bytes
  pub listed : list_bytes bytes ≡ []
  pub asked : (held_of bytes).asked ≡ true

abbrev pub AcceptedIsWhole : Type 0
AcceptedIsWhole = (bytes : List ℕ) → (read_chart_of bytes).refusal ≡ 0 → Whole bytes

-- mending what was mended changes nothing and lists nothing
abbrev pub TwiceIsOnce : Type 0
TwiceIsOnce = (bytes : List ℕ) → (held_of bytes).asked ≡ true → Whole (kept_bytes bytes)

-- fields kept and dropped, in order, make up the input
abbrev pub all_of : Seen → List ℕ
all_of f = f.bytes

abbrev pub NoneLost : Type 0
NoneLost = (bytes : List ℕ) → each all_of (fields_of bytes) ≡ bytes

-- a field begins where those before it end, and has a byte at least
pub record Placed (before : List Seen) (f : Seen) : Type 0 where
  pub place : f.place ≡ length (each all_of before)
  pub some : 0 < length f.bytes

abbrev pub AllPlaced : Type 0
AllPlaced = (bytes : List ℕ) (before : List Seen) (f : Seen) (after : List Seen) → fields_of bytes ≡ before ++ (f ∷ after) → Placed before f

-- so that places ascend
abbrev pub PlacesAscend : Type 0
PlacesAscend =
    (bytes : List ℕ) (before : List Seen) (f : Seen) (middle : List Seen) (g : Seen) (after : List Seen)
    → fields_of bytes ≡ before ++ (f ∷ (middle ++ (g ∷ after))) → f.place < g.place

-- a dropped field's number is the reader's own: with the fields kept before it in front of it, the reader refuses it by that number, where it then begins
abbrev pub ReadersNumber : Type 0
ReadersNumber =
    (bytes : List ℕ) (before : List Seen) (f : Seen) (after : List Seen) → fields_of bytes ≡ before ++ (f ∷ after) → (f.refusal ≡ 0 → ⊥)
    → read_chart_of (each kept_of before ++ drop f.place bytes) ≡ refused_at f.refusal (length (each kept_of before))

-- ---- 21, 31 and the sizes

-- a field of number 21 is the last
abbrev pub TwentyOneEnds : Type 0
TwentyOneEnds = (bytes : List ℕ) (before : List Seen) (f : Seen) (after : List Seen) → fields_of bytes ≡ before ++ (f ∷ after) → f.refusal ≡ 21 → after ≡ []

-- a question is among the kept fields
unfoldable pub is_question : Seen → Bool
is_question f = eqb f.refusal 0 && eqb (tag_at f.bytes 0) question_tag

unfoldable pub question_kept : List Seen → Bool
question_kept [] = false
question_kept (f ∷ fs) = is_question f || question_kept fs

-- and that is when 31 is not given, for an input that is not too long
pub record ThirtyOne (bytes : List ℕ) (room list_room : ℕ) : Type 0 where
  pub given : question_kept (fields_of bytes) ≡ false → mend_refusal bytes room list_room ≡ 31
  pub only : mend_refusal bytes room list_room ≡ 31 → question_kept (fields_of bytes) ≡ false

abbrev pub ThirtyOneIsNoQuestion : Type 0
ThirtyOneIsNoQuestion = (bytes : List ℕ) (room list_room : ℕ) → length bytes ≤ longest_input → ThirtyOne bytes room list_room

-- what is kept and what is listed together are at most two bytes more than the input; the list is of whole entries, and so that of any input that is not too
-- long is no longer than one
pub record Sizes (bytes : List ℕ) : Type 0 where
  pub both : length (kept_bytes bytes) + length (list_bytes bytes) ≤ length bytes + 2
  pub entries : length (list_bytes bytes) % entry_size ≡ 0
  pub listed : length bytes ≤ longest_input → length (list_bytes bytes) ≤ longest_input

abbrev pub AllSizes : Type 0
AllSizes = (bytes : List ℕ) → Sizes bytes

-- beside a chart that is kept, which has a node and a question at least, it has at most 21,840 entries
abbrev pub longest_list : ℕ
longest_list = 65520

abbrev pub ListFits : Type 0
ListFits = (bytes : List ℕ) → length bytes ≤ longest_input → (held_of bytes).asked ≡ true → length (list_bytes bytes) ≤ longest_list

-- an entry says its field's place and number
pub record EntrySays (f : Seen) : Type 0 where
  pub place : word_at (entry_of f) 0 ≡ f.place
  pub number : get_or (entry_of f) 2 0 ≡ f.refusal

abbrev pub EntriesSay : Type 0
EntriesSay = (f : Seen) → (f.refusal ≡ 0 → ⊥) → EntrySays f

-- ---- the call

-- a chart that is whole comes out as it went in
abbrev pub WholeMends : Type 0
WholeMends =
    (bytes : List ℕ) (room list_room : ℕ) → Whole bytes → length bytes ≤ longest_input → length bytes ≤ room
    → mend_of bytes room list_room ≡ record { refusal = 0; kept = length bytes; listed = 0 }

-- a kept field is one that the reader takes: in the fields kept up to any place, it finds no bad one, and comes to their end
abbrev pub KeptSoFarIsTaken : Type 0
KeptSoFarIsTaken =
    (bytes : List ℕ) (before after : List Seen) → fields_of bytes ≡ before ++ after
    → (s : SoFar) × (read_chart_of (each kept_of before) ≡ at_end s (length (each kept_of before)))
