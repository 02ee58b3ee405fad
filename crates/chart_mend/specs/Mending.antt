-- Mending a chart (document 02, Twelve): the fields from the front, each kept if the reader would take it after those kept so far, else dropped and listed.
use Rattle.std.specs.Prelude.{ℕ, suc, zero, ◌-◌, List, [], ◌∷◌, ◌++◌, not, cond, length, take, drop, ltb, leb, eqb, Result, Ok, Err}
use Rattle.lists.specs.Refusals.{refuse, unless_refused}
use Rattle.refusal.specs.declared.Refusal.{Refusal}
use Rattle.refusal.specs.Numbers.{number}
use Rattle.buffer.specs.Bytes.{word_bytes}
use Rattle.chart_read.specs.Fields.{tag_at, body_at, past_field}
use Rattle.chart_read.specs.Reading.{SoFar, nothing, with_body, refusing, field_refusal}
use Rattle.chart_mend.specs.declared.MendedSizes.{MendedSizes}

-- ---- one field

-- a field of the input: where it begins, the reader's number for it after the fields kept before it (0: it is kept), and its bytes
pub record Seen : Type 0 where
  pub place : ℕ
  pub refusal : ℕ
  pub bytes : List ℕ

-- where the next field begins: past this one; 21 ends the walk, so that what remains is one field
unfoldable pub next_place : ℕ → List ℕ → ℕ → ℕ
next_place k bytes at = cond (eqb k 21) (length bytes) (past_field bytes at)

-- what is held after it: what its body says is added only if it is kept
unfoldable pub held_after : ℕ → SoFar → List ℕ → ℕ → SoFar
held_after k s bytes at = unless_refused k (with_body s (tag_at bytes at) (body_at bytes at)) s

-- the field with this number at a place
unfoldable pub seen_at : ℕ → List ℕ → ℕ → Seen
seen_at k bytes at = record { place = at; refusal = k; bytes = take (next_place k bytes at - at) (drop at bytes) }

-- ---- all fields

-- the fields from a place on, at most `fuel` of them, after what is held
unfoldable pub fields_from : ℕ → SoFar → List ℕ → ℕ → List Seen
fields_from zero s bytes at = []
fields_from (suc fuel) s bytes at =
    let k = field_refusal (refusing s) bytes at in
    cond (leb (length bytes) at) [] (seen_at k bytes at ∷ fields_from fuel (held_after k s bytes at) bytes (next_place k bytes at))

-- what is held after them
unfoldable pub held_from : ℕ → SoFar → List ℕ → ℕ → SoFar
held_from zero s bytes at = s
held_from (suc fuel) s bytes at =
    let k = field_refusal (refusing s) bytes at in
    cond (leb (length bytes) at) s (held_from fuel (held_after k s bytes at) bytes (next_place k bytes at))

-- of the whole input. Each field has a byte at least, so there are no more fields than bytes
unfoldable pub fields_of : List ℕ → List Seen
fields_of bytes = fields_from (length bytes) nothing bytes 0

unfoldable pub held_of : List ℕ → SoFar
held_of bytes = held_from (length bytes) nothing bytes 0

-- ---- what is kept and what is listed

-- what is made of each field, one after the other
unfoldable pub each : (Seen → List ℕ) → List Seen → List ℕ
each f [] = []
each f (x ∷ xs) = f x ++ each f xs

-- its bytes if it is kept
unfoldable pub kept_of : Seen → List ℕ
kept_of f = unless_refused f.refusal f.bytes []

-- if it is dropped, an entry of the list: its place in two bytes, then its number
unfoldable pub entry_of : Seen → List ℕ
entry_of f = unless_refused f.refusal [] (word_bytes f.place ++ (f.refusal ∷ []))

-- how many bytes an entry has
abbrev pub entry_size : ℕ
entry_size = 3

unfoldable pub kept_bytes : List ℕ → List ℕ
kept_bytes bytes = each kept_of (fields_of bytes)

unfoldable pub list_bytes : List ℕ → List ℕ
list_bytes bytes = each entry_of (fields_of bytes)

-- ---- the call

-- the longest input: its places fit two bytes
abbrev pub longest_input : ℕ
longest_input = 65535

-- 33 an input that is too long, 31 no question is kept, 10 either buffer is too short
unfoldable pub mend_refusal : List ℕ → ℕ → ℕ → ℕ
mend_refusal bytes room list_room =
    refuse 33 (ltb longest_input (length bytes))
    (refuse 31 (not (held_of bytes).asked)
    (refuse 10 (ltb room (length (kept_bytes bytes)))
    (refuse 10 (ltb list_room (length (list_bytes bytes))) 0)))

-- the answer: how many bytes are kept and how many listed, 0 beside a refusal
pub record Mended : Type 0 where
  pub refusal : ℕ
  pub kept : ℕ
  pub listed : ℕ

-- what the result of the call is as an answer
abbrev pub mended : Result MendedSizes Refusal → Mended
mended (Ok s) = record { refusal = 0; kept = s.kept; listed = s.listed }
mended (Err r) = record { refusal = number r; kept = 0; listed = 0 }

unfoldable pub mend_of : List ℕ → ℕ → ℕ → Mended
mend_of bytes room list_room =
    record {
      refusal = mend_refusal bytes room list_room;
      kept = unless_refused (mend_refusal bytes room list_room) (length (kept_bytes bytes)) 0;
      listed = unless_refused (mend_refusal bytes room list_room) (length (list_bytes bytes)) 0;
    }

-- its sizes
abbrev pub sizes_of : Mended → MendedSizes
sizes_of m = record { kept = m.kept; listed = m.listed }
