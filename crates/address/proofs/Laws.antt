-- The laws of addresses: what a range says, and that two addresses are one exactly if they are equal.
use Prim.Native.Nat.{◌≤◌}
use mathlib.Core.Path.{◌≡◌, refl}
use mathlib.Core.Bool.{true}
use lib.Dec.{leb, eqb}
use borrow.Author.Tests.{leb-true, eqb-true, eq-eqb}
use Rattle.lists.proofs.Bools.{and_left, and_right, and_both}
use Rattle.address.specs.declared.Address.{Address}
use Rattle.address.specs.Address.{station_of, station_in_range, in_range, same_station, same_address}

module _ (a : Address) (h : in_range a ≡ true) where
  station : station_in_range (station_of a) ≡ true
  unfolding in_range
  station = and_left _ _ h

  pub brigade-le : a.brigade ≤ 255
  unfolding station_in_range
  brigade-le = leb-true _ _ (and_left _ _ station)

  pub node-le : a.node.0 ≤ 1023
  unfolding station_in_range
  node-le = leb-true _ _ (and_right (leb a.brigade 255) _ station)

  pub port-le : a.port.0 ≤ 63
  unfolding in_range
  port-le = leb-true _ _ (and_right (station_in_range (station_of a)) _ h)

-- one address, one value
pub same-eq : (a b : Address) → same_address a b ≡ true → a ≡ b
unfolding same_address same_station
same-eq a b h =
    let s = and_left _ _ h in
    let g = eqb-true a.brigade b.brigade (and_left _ _ s) in
    let n = eqb-true a.node.0 b.node.0 (and_right (eqb a.brigade b.brigade) _ s) in
    let p = eqb-true a.port.0 b.port.0 (and_right (same_station (station_of a) (station_of b)) _ h) in
    λ i. record { brigade = g i; node = record { 0 = n i }; port = record { 0 = p i } }

pub same_refl : (a : Address) → same_address a a ≡ true
unfolding same_address same_station
same_refl a = and_both (and_both (eq-eqb a.brigade _ refl) (eq-eqb a.node.0 _ refl)) (eq-eqb a.port.0 _ refl)
