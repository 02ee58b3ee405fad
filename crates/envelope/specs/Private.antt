-- The keys of destinations, one number for each, by which the code sees whether two are equal, and which is the first that equals an earlier one.
use Rattle.std.specs.Prelude.{ℕ, Bool, cond, eqb}
use Rattle.lists.specs.Places.{first_below, repeat_at, repeats}
use Rattle.address.specs.declared.Address.{Address}
use Rattle.address_bytes.specs.Packed.{address_key}
use Rattle.envelope.specs.declared.Fixed.{Fixed}
use Rattle.envelope.specs.Refusal.{values_refusal_by}

unfoldable pub key_at : (ℕ → Address) → ℕ → ℕ
key_at d i = address_key (d i)

-- a number, and beside 8 a destination's place
pub record Judged : Type 0 where
  pub refusal : ℕ
  pub twin : ℕ

-- the number of the values by the destinations' keys; beside 8 the first destination whose key is that of an earlier one
unfoldable pub judged_by : Fixed → ℕ → Bool → (ℕ → ℕ) → Judged
judged_by e n stray keys =
    let number = values_refusal_by e n stray (repeats eqb keys e.count) in
    record { refusal = number; twin = cond (eqb number 8) (first_below (repeat_at eqb keys) e.count) 0 }
