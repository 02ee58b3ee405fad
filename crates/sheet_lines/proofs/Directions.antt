-- The word of each direction, with the blank before it and the line's end.
use Prim.Native.Nat.{ℕ}
use mathlib.Core.Path.{◌≡◌}
use mathlib.Core.List.{◌++◌}
use borrow.Author.Tests.{eq-eqb, ne_eqb}
use Rattle.text.specs.Marks.{ascii, blank, lf}
use Rattle.sheet_lines.specs.Lines.{direction_text}

pub word-both : (d : ℕ) → d ≡ 0 → ascii " both\n" ≡ blank ++ direction_text d ++ lf
unfolding direction_text
word-both d e = rw (eq-eqb d 0 e)

pub word_out : (d : ℕ) → (d ≡ 0 → ⊥) → d ≡ 1 → ascii " out\n" ≡ blank ++ direction_text d ++ lf
unfolding direction_text
word_out d b e = rw (ne_eqb d 0 b, eq-eqb d 1 e)

pub word_back : (d : ℕ) → (d ≡ 0 → ⊥) → (d ≡ 1 → ⊥) → ascii " back\n" ≡ blank ++ direction_text d ++ lf
unfolding direction_text
word_back d b o = rw (ne_eqb d 0 b, ne_eqb d 1 o)
