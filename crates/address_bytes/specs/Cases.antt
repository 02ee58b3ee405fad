-- 9/21/5 as bytes, in the wire's form (003, appendix A, <comms_address>) and in that of charts and images.
use Rattle.std.specs.Prelude.{◌≡◌, refl, [], ◌∷◌}
use Rattle.address.specs.Address.{station_of, address_of}
use Rattle.address_bytes.specs.Packed.{packed_bytes, packed_in, address_key}
use Rattle.address_bytes.specs.Wide.{station_bytes, address_bytes, station_in, address_in}

pub record Cases : Type 0 where
  -- 00001001 0000010101 000101: brigade, node, port
  pub packed : packed_bytes (address_of 9 21 5) ≡ 9 ∷ 5 ∷ 69 ∷ []
  pub unpacked : packed_in (7 ∷ 9 ∷ 5 ∷ 69 ∷ []) 1 ≡ address_of 9 21 5
  pub largest : packed_bytes (address_of 255 1023 63) ≡ 255 ∷ 255 ∷ 255 ∷ []
  pub key : address_key (address_of 9 21 5) ≡ 591173
  pub wide : address_bytes (address_of 9 1021 5) ≡ 9 ∷ 3 ∷ 253 ∷ 5 ∷ []
  pub narrow : address_in (7 ∷ 9 ∷ 3 ∷ 253 ∷ 5 ∷ []) 1 ≡ address_of 9 1021 5
  pub station : station_bytes (station_of (address_of 9 1021 5)) ≡ 9 ∷ 3 ∷ 253 ∷ []
  pub station_in : station_in (7 ∷ 9 ∷ 3 ∷ 253 ∷ []) 1 ≡ station_of (address_of 9 1021 5)

pub cases : Cases
cases = record { packed = refl; unpacked = refl; largest = refl; key = refl; wide = refl; narrow = refl; station = refl; station_in = refl }
