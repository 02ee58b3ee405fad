-- How long a sheet can be (document 01, "The printed sheet"; document 02, Five). proofs/Promises.antt has the theorem.
use Rattle.std.specs.Prelude.{ℕ, ◌≤◌, List, length, Ok}
use Rattle.buffer.specs.Bytes.{Bytes}
use Rattle.sheet.specs.Sheet.{sheet_text, SheetAnswers}

-- at most 18 bytes for the counts, 37 for each of 16 nodes, 36 for each of 48 links, 26 for the question, 45 for each of 1,000 routes, and 5 for the last line
abbrev pub longest_sheet : ℕ
longest_sheet = 47369

-- no sheet is longer: a buffer of this size is never refused
abbrev pub SheetShort : Type 0
SheetShort = (bytes : List ℕ) → Bytes bytes → length (sheet_text bytes) ≤ longest_sheet

-- nor does a writing give more
abbrev pub WrittenShort : Type 0
WrittenShort = (bytes : List ℕ) → Bytes bytes → (room n : ℕ) → SheetAnswers bytes room (Ok n) → n ≤ longest_sheet
