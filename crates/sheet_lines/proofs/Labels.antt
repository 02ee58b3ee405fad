-- A label's text: empty, in part, or the whole room of 24 bytes.
use Prim.Native.Nat.{ℕ, ◌<◌}
use mathlib.Core.Path.{◌≡◌, refl}
use mathlib.Core.List.{List, [], ◌∷◌, ◌++◌}
use native.Mathlib.Omega.{arith}
use lib.ListN.{length, take, length-take}
use Rattle.text.specs.Marks.{blank}
use Rattle.sheet_lines.specs.Lines.{label_text}

label-some : (l : List ℕ) → 0 < length l → blank ++ l ≡ label_text l
unfolding label_text
label-some [] h = absurd (omega arith)
label-some (x ∷ l) h = refl

pub label-none : (n : ℕ) (l : List ℕ) → n ≡ 0 → [] ≡ label_text (take n l)
unfolding label_text
label-none n l e = rw e

pub label-part : (n m : ℕ) (l : List ℕ) → (m ≡ 0 → ⊥) → 0 < length l → take n l ≡ take m l → blank ++ take n l ≡ label_text (take m l)
label-part n m l h k e = rw e (label-some (take m l) (rw length-take (omega arith)))
