-- The first of many refusals.
use Rattle.std.specs.Prelude.{ℕ, zero, suc}
use Rattle.lists.specs.Refusals.{or_else}

-- the first number other than 0 among those at the places below n, or 0
unfoldable pub first_refusal_below : (ℕ → ℕ) → ℕ → ℕ
first_refusal_below d zero = 0
first_refusal_below d (suc n) = or_else (first_refusal_below d n) (d n)
