-- Numbers in decimal and marks, by example.
use Rattle.std.specs.Prelude.{◌≡◌, refl, [], ◌∷◌}
use Rattle.text.specs.Marks.{ascii, blank, slash, lf}
use Rattle.text.specs.Decimal.{digits, decimal}

-- one digit, two, and the largest usize; the codes of the marks
pub record Cases : Type 0 where
  pub none : decimal 0 ≡ ascii "0"
  pub nine : decimal 9 ≡ ascii "9"
  pub ten : decimal 10 ≡ ascii "10"
  pub largest : decimal 18446744073709551615 ≡ ascii "18446744073709551615"
  pub codes : ascii "09 az" ≡ 48 ∷ 57 ∷ 32 ∷ 97 ∷ 122 ∷ []
  pub marks : (blank ≡ 32 ∷ []) × (slash ≡ 47 ∷ []) × (lf ≡ 10 ∷ [])

pub cases : Cases
unfolding digits
cases = record { none = refl; nine = refl; ten = refl; largest = refl; codes = refl; marks = (refl, refl, refl) }
