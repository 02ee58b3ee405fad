-- The ranges of an address, and when two are one, by example (document 01, "Addresses and the envelope").
use Rattle.std.specs.Prelude.{◌≡◌, refl, true, false}
use Rattle.address.specs.Address.{largest_seq, station_of, address_of, station_in_range, in_range, same_station, same_address}

pub record Cases : Type 0 where
  -- both sides of each range
  pub largest : in_range (address_of 255 1023 63) ≡ true
  pub brigade : in_range (address_of 256 1023 63) ≡ false
  pub node : in_range (address_of 255 1024 63) ≡ false
  pub port : in_range (address_of 255 1023 64) ≡ false
  pub router : in_range (address_of 0 0 0) ≡ true
  pub seq : largest_seq ≡ 32767
  -- 9/20/5 is 9/20/5: not another brigade, node or port
  pub one : same_address (address_of 9 20 5) (address_of 9 20 5) ≡ true
  pub other_brigade : same_address (address_of 9 20 5) (address_of 8 20 5) ≡ false
  pub other_node : same_address (address_of 9 20 5) (address_of 9 21 5) ≡ false
  pub other_port : same_address (address_of 9 20 5) (address_of 9 20 6) ≡ false
  -- its station is 9/20, whatever the port
  pub station : station_of (address_of 9 20 5) ≡ record { brigade = 9; node = record { 0 = 20 } }
  pub same_station : same_station (station_of (address_of 9 20 5)) (station_of (address_of 9 20 6)) ≡ true

pub cases : Cases
unfolding station_in_range in_range same_station same_address
cases =
    record {
      largest = refl;
      brigade = refl;
      node = refl;
      port = refl;
      router = refl;
      seq = refl;
      one = refl;
      other_brigade = refl;
      other_node = refl;
      other_port = refl;
      station = refl;
      same_station = refl;
    }
