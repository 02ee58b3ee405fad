-- Bytes and two-byte numbers in a list. A place past the end counts as 0.
use Rattle.std.specs.Prelude.{ℕ, ◌+◌, ◌*◌, ◌/◌, ◌%◌, ◌<◌, List, [], ◌∷◌, get_or}

-- every element is a byte
abbrev pub Bytes : List ℕ → Type 0
Bytes l = (i : ℕ) → get_or l i 0 < 256

-- the two-byte number that begins at a place, the high byte first
abbrev pub word_at : List ℕ → ℕ → ℕ
word_at l at = get_or l at 0 * 256 + get_or l (at + 1) 0

-- the two bytes of a number
abbrev pub word_bytes : ℕ → List ℕ
word_bytes w = (w / 256) ∷ (w % 256) ∷ []
