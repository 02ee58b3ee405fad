-- An address and its three bytes undo each other. proofs/PackedLaws.antt has the theorem.
use Rattle.std.specs.Prelude.{ℕ, ◌+◌, ◌≡◌, true, List, [], ◌∷◌, ◌++◌, get_or}
use Rattle.buffer.specs.Bytes.{Bytes}
use Rattle.address.specs.declared.Address.{Address}
use Rattle.address.specs.Address.{in_range}
use Rattle.address_bytes.specs.Packed.{packed_bytes, packed_in}

-- of an address in range, and of any bytes
pub record PackedUndo : Type 0 where
  pub read : (a : Address) → in_range a ≡ true → (rest : List ℕ) → packed_in (packed_bytes a ++ rest) 0 ≡ a
  pub written : (l : List ℕ) → Bytes l → (at : ℕ) → packed_bytes (packed_in l at) ≡ get_or l at 0 ∷ get_or l (at + 1) 0 ∷ get_or l (at + 2) 0 ∷ []
