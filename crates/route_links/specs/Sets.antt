-- Sets of places as words (document 02, Ten): a place is in the set where that digit of the word is 1.
use Rattle.std.specs.Prelude.{ℕ, zero, suc, ◌/◌, ◌%◌, ◌^◌, ◌<◌, ◌≡◌, Bool, cond, List, [], ◌∷◌, eqb}
use Rattle.chart.specs.Values.{most_links}

-- the place i is in the set
unfoldable pub has : ℕ → ℕ → Bool
has w i = eqb (w / 2 ^ i % 2) 1

-- those of the n places from i on where the test holds, in order
unfoldable pub where_from : (ℕ → Bool) → ℕ → ℕ → List ℕ
where_from p i zero = []
where_from p i (suc n) = cond (p i) (i ∷ where_from p (suc i) n) (where_from p (suc i) n)

-- the link places in the set, the lowest first
unfoldable pub places_in : ℕ → List ℕ
places_in w = where_from (has w) 0 most_links

-- the word is the set of these link places, and has no other digit
pub record SetOf (l : List ℕ) (w : ℕ) : Type 0 where
  pub small : w < 2 ^ most_links
  pub places : places_in w ≡ l
