-- Stations and addresses (document 01, "Addresses and the envelope"; 003, section 3.2).
use Rattle.std.specs.Prelude.{ℕ, Bool, ◌&&◌, leb, eqb}
use Rattle.address.specs.declared.Station.{Station}
use Rattle.address.specs.declared.Address.{Address}

-- the ranges: a brigade number has 8 bits, a node number 10, a port number 6, a sequence number 15
abbrev pub largest_brigade : ℕ
largest_brigade = 255

abbrev pub largest_node : ℕ
largest_node = 1023

abbrev pub largest_port : ℕ
largest_port = 63

abbrev pub largest_seq : ℕ
largest_seq = 32767

-- the station that an address stands at
abbrev pub station_of : Address → Station
station_of a = record { brigade = a.brigade; node = a.node }

-- the address with these numbers
abbrev pub address_of : ℕ → ℕ → ℕ → Address
address_of brigade node port = record { brigade = brigade; node = record { 0 = node }; port = record { 0 = port } }

-- the brigade is 0 to 255 and the node 0 to 1023
unfoldable pub station_in_range : Station → Bool
station_in_range s = leb s.brigade largest_brigade && leb s.node.0 largest_node

-- the station is in range, and the port 0 to 63
unfoldable pub in_range : Address → Bool
in_range a = station_in_range (station_of a) && leb a.port.0 largest_port

-- the two are one station: the same brigade and the same node
unfoldable pub same_station : Station → Station → Bool
same_station s t = eqb s.brigade t.brigade && eqb s.node.0 t.node.0

-- the two are one address: the same station and the same port
unfoldable pub same_address : Address → Address → Bool
same_address a b = same_station (station_of a) (station_of b) && eqb a.port.0 b.port.0

-- the address with every number 0, which stands at an unused place
abbrev pub zero_address : Address
zero_address = record { brigade = 0; node = record { 0 = 0 }; port = record { 0 = 0 } }
