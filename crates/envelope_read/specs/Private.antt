-- The places of refusals as the reader comes to them.
use Rattle.std.specs.Prelude.{ℕ, cond, eqb}
use Rattle.envelope.specs.Frame.{prot_offset}
use Rattle.envelope.specs.Place.{count_place, destination_place}

-- the place of 4, 7, 8 and 9 in a frame of so many destinations, where the one at `twin` is the first that equals an earlier one
unfoldable pub value_place : ℕ → ℕ → ℕ → ℕ
value_place number count twin = cond (eqb number 4) count_place (cond (eqb number 8) (destination_place twin) (prot_offset count))
