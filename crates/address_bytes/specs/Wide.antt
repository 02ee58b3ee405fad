-- Stations and addresses in whole bytes, as charts and images have them: brigade 1, node 2 (the high byte first), port 1.
use Rattle.std.specs.Prelude.{ℕ, ◌+◌, List, [], ◌∷◌, ◌++◌, get_or}
use Rattle.buffer.specs.Bytes.{word_at, word_bytes}
use Rattle.address.specs.declared.Station.{Station}
use Rattle.address.specs.declared.Address.{Address}

-- the bytes of an address
abbrev pub address_size : ℕ
address_size = 4

-- a station's three bytes, an address's four
abbrev pub station_bytes : Station → List ℕ
station_bytes s = s.brigade ∷ word_bytes s.node.0

abbrev pub address_bytes : Address → List ℕ
address_bytes a = a.brigade ∷ word_bytes a.node.0 ++ (a.port.0 ∷ [])

-- the station and the address whose bytes begin at a place
abbrev pub station_in : List ℕ → ℕ → Station
station_in b at = record { brigade = get_or b at 0; node = record { 0 = word_at b (at + 1) } }

abbrev pub address_in : List ℕ → ℕ → Address
address_in b at = record { brigade = get_or b at 0; node = record { 0 = word_at b (at + 1) }; port = record { 0 = get_or b (at + 3) 0 } }
