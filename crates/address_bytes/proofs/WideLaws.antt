-- Words and addresses, read back from their bytes.
use Prim.Native.Nat.{ℕ, ◌+◌}
use mathlib.Core.Path.{◌≡◌, refl}
use mathlib.Core.List.{List}
use lib.ListN.{length, get_or}
use Rattle.buffer.proofs.Words.{word_back}
use Rattle.address.specs.declared.Address.{Address}
use Rattle.address_bytes.specs.Wide.{address_bytes, address_in}

pub length-address : (a : Address) → length (address_bytes a) ≡ 4
length-address a = refl

-- an address is read from its four bytes, wherever they stand
pub address-back : (a : Address) (b : List ℕ) (at : ℕ)
    → get_or b at 0 ≡ get_or (address_bytes a) 0 0 → get_or b (at + 1) 0 ≡ get_or (address_bytes a) 1 0
    → get_or b (at + 1 + 1) 0 ≡ get_or (address_bytes a) 2 0 → get_or b (at + 3) 0 ≡ get_or (address_bytes a) 3 0 → address_in b at ≡ a
address-back a b at p0 p1 p2 p3 = rw (p0, p1, p2, p3, word_back a.node.0)
