-- Refusal numbers (document 01: the lowest number that applies is given). 0 stands for none.
use Rattle.std.specs.Prelude.{ℕ, zero, suc, Bool, true, false, ◌||◌, List, [], ◌∷◌, eqb}

-- the number n if the test holds, else what the later tests give
abbrev pub refuse : ℕ → Bool → ℕ → ℕ
refuse n true later = n
refuse n false later = later

-- the first of two refusals
abbrev pub or_else : ℕ → ℕ → ℕ
or_else zero b = b
or_else (suc a) b = suc a

-- x where the number refuses nothing, z beside a refusal
unfoldable pub unless_refused : {A : Type 0} → ℕ → A → A → A
unless_refused zero x z = x
unless_refused (suc n) x z = z

-- the number is one of these
abbrev pub among : ℕ → List ℕ → Bool
among n [] = false
among n (k ∷ ks) = eqb n k || among n ks
