-- What a writer of text leaves in a lent buffer.
use Rattle.std.specs.Prelude.{ℕ, ◌+◌, ◌<◌, min, ◌≡◌, List, length}
use Rattle.std.proofs.lemmas.List.Edits.{sets}

-- the largest usize: no slice is so long, and a place that would be past it stays there
abbrev pub last : ℕ
last = 18446744073709551615

-- the text was stored byte by byte over `old` from the place `at` on, as far as there is room, and `next` is the place after it
pub record Laid (old : List ℕ) (at : ℕ) (text : List ℕ) (new : List ℕ) (next : ℕ) : Type 0 where
  pub bytes : new ≡ sets old at text
  pub place : next ≡ min (at + length text) last
  pub short : length old < last
