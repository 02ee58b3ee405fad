-- A line that asks of document 01's limits: a letter, a blank, and numbers between blanks. No promise of the library rests on it.
use Rattle.std.specs.Prelude.{ℕ, zero, suc, ◌+◌, ◌-◌, ◌*◌, ◌%◌, ◌<◌, ◌≡◌, refl, Bool, true, false, cond, ◌||◌, List, [], ◌∷◌, eqb, ltb, length, get_or, set, take, drop, replicate}
use Rattle.lists.specs.Places.{firsts, row}

-- how many bytes stand before the first line feed
unfoldable pub before_feed : List ℕ → ℕ
before_feed [] = 0
before_feed (b ∷ bs) = cond (eqb b 10) 0 (suc (before_feed bs))

-- where the line that begins at a place ends: at its line feed, or with the text
unfoldable pub line_end : List ℕ → ℕ → ℕ
line_end text at = at + before_feed (drop at text)

-- a line begins where the text does, and after each line feed
unfoldable pub line_begins : List ℕ → ℕ → Bool
line_begins text zero = true
line_begins text (suc i) = eqb (get_or text i 0) 10

-- the line that begins at a place, without its feed
unfoldable pub line_at : List ℕ → ℕ → List ℕ
line_at text at = take (line_end text at - at) (drop at text)

-- none of the digits 0 to 9
unfoldable pub no_digit : ℕ → Bool
no_digit c = ltb c 48 || ltb 57 c

-- a number with one digit more, as far as it has 16 bits; a digit's four low bits are its value
abbrev pub longer_of : ℕ → ℕ → ℕ
longer_of n c = (n * 10 + c % 16) % 65536

-- the numbers v after the bytes that follow, where the one at place k is being read: a blank leads to the next, a digit lengthens it, all else ends them
unfoldable pub numbers_from : List ℕ → ℕ → List ℕ → List ℕ
numbers_from v k [] = v
numbers_from v k (c ∷ cs) =
    cond (eqb c 32)
    (numbers_from v ((k + 1) % 64) cs)
    (cond (no_digit c) v (numbers_from (set v k (longer_of (get_or v k 0) c)) k cs))

-- the 64 numbers of a line after its letter; those that it lacks are 0
unfoldable pub numbers_of : List ℕ → List ℕ
numbers_of line = numbers_from (replicate 64 0) 0 (drop 2 line)

-- P holds of each line of a text, of its first byte, or 0, and its numbers
abbrev pub EachLine : (ℕ → List ℕ → Type 0) → List ℕ → Type 0
EachLine P text = (at : ℕ) → at < length text → line_begins text at ≡ true → P (get_or (line_at text at) 0 0) (numbers_of (line_at text at))

-- the number after the one at a place, as a byte
unfoldable pub byte_after : List ℕ → ℕ → ℕ
byte_after v i = get_or v (i + 1) 0 % 256

-- the numbers after the first, as bytes
unfoldable pub bytes_of : List ℕ → List ℕ
bytes_of v = row 63 0 (byte_after v) 63

-- "a 12 7x 5", a line feed and "b"
abbrev pub sample : List ℕ
sample = 97 ∷ 32 ∷ 49 ∷ 50 ∷ 32 ∷ 55 ∷ 120 ∷ 32 ∷ 53 ∷ 10 ∷ 98 ∷ []

-- its two lines end at 9 and with the text, and one past the text where it begins; its numbers are 12 and 7; a byte is a number's lowest eight bits
pub record Samples : Type 0 where
  pub first : line_end sample 0 ≡ 9
  pub last : line_end sample 10 ≡ 11
  pub past : line_end sample 20 ≡ 20
  pub two : numbers_of sample ≡ 12 ∷ 7 ∷ replicate 62 0
  pub low : bytes_of (2 ∷ 9 ∷ 257 ∷ []) ≡ 9 ∷ 1 ∷ replicate 61 0

pub samples : Samples
unfolding before_feed line_end no_digit numbers_from numbers_of byte_after bytes_of row firsts
samples = record { first = refl; last = refl; past = refl; two = refl; low = refl }

-- a line begins at its start and after the feed, at 10, not at the feed; the one at 10 is "b", and the first is what stands before the feed;
-- between two feeds is an empty one
pub record LineSamples : Type 0 where
  pub start : line_begins sample 0 ≡ true
  pub feed : line_begins sample 9 ≡ false
  pub after : line_begins sample 10 ≡ true
  pub first : line_at sample 0 ≡ 97 ∷ 32 ∷ 49 ∷ 50 ∷ 32 ∷ 55 ∷ 120 ∷ 32 ∷ 53 ∷ []
  pub last : line_at sample 10 ≡ 98 ∷ []
  pub empty : (line_begins (97 ∷ 10 ∷ 10 ∷ []) 2 ≡ true) × (line_at (97 ∷ 10 ∷ 10 ∷ []) 2 ≡ [])

pub line_samples : LineSamples
unfolding before_feed line_end line_begins line_at
line_samples = record { start = refl; feed = refl; after = refl; first = refl; last = refl; empty = (refl, refl) }
