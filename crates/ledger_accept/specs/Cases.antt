-- Accepts by example: the frame of envelope/specs/Cases.antt, from 9/1/2 to 9/20/5 and 9/21/5 with the number 300.
use Rattle.std.specs.Prelude.{◌≡◌, refl, true, List, [], ◌∷◌, replicate}
use Rattle.lists.specs.Places.{any_below, first_from, first_below, same_at, repeat_at, repeats, element_at, firsts}
use Rattle.lists.specs.Refusals.{unless_refused}
use Rattle.address.specs.declared.Port.{Port}
use Rattle.address.specs.Address.{address_of, station_in_range, in_range, same_station, same_address}
use Rattle.envelope.specs.Frame.{length_of, count_of, fields_of, destination_at, xor_from}
use Rattle.envelope.specs.Refusal.{outside, stray_at, out_of_range, wrong_version, whole_refusal, values_refusal_by, frame_refusal}
use Rattle.envelope.specs.Place.{place_beside, frame_place}
use Rattle.envelope.specs.Cases.{fire_body, fire_frame, changed}
use Rattle.table.specs.declared.Target.TheVariants.{One, Everything}
use Rattle.table.specs.declared.Table.{Table}
use Rattle.table.specs.Table.{entry_at, is_own, covers, qualifies, qualifies_at, has_route, out_port, out_choice, target_in_range, entry_in_range, stray_entry, table_in_range, call_in_range, choose_of}
use Rattle.table.specs.Cases.{entry, single}
use Rattle.ledger.specs.declared.Standing.TheVariants.{Open, Acknowledged, Undeliverable, Waiting}
use Rattle.ledger.specs.declared.Leg.{Leg}
use Rattle.ledger.specs.Rules.{leg_at, is_open, is_open_leg, alike, ticks_obey, leg_obeys, broken_at, obeys}
use Rattle.ledger.specs.Cases.{leg, ledger, hill}
use Rattle.ledger_accept.specs.Accept.{is_open_from, is_open_from_at, legs_refusal, call_refusal, accept_refusal, leg_for, leg_for_at, with_legs, accept_of}

-- a table of 9/1 with a route to 9/20 alone
unfoldable pub to_hill : Table
to_hill = single 1 1 (entry (One 9 (record { 0 = 20 })) 2 true)

-- a message that began here
abbrev pub begun : Port
begun = record { 0 = 0 }

-- the two legs of the frame with 5 ticks: the first has a route, the second none
unfoldable pub fire_legs : List Leg
fire_legs = leg (address_of 9 1 2) (address_of 9 20 5) 300 5 Open ∷ leg (address_of 9 1 2) (address_of 9 21 5) 300 0 Undeliverable ∷ []

pub record Cases : Type 0 where
  -- an open leg for the destination with a route, an undeliverable one without ticks for the other
  pub added : accept_of (ledger []) fire_frame begun to_hill 5 ≡ record { refusal = 0; added = 2; place = 0; ledger = ledger fire_legs }
  -- the own station is local, and so has no need of a route
  pub local : (accept_of (ledger []) fire_frame begun (single 21 0 (entry Everything 2 true)) 5).ledger
      ≡ ledger (leg (address_of 9 1 2) (address_of 9 20 5) 300 0 Undeliverable ∷ leg (address_of 9 1 2) (address_of 9 21 5) 300 5 Open ∷ [])
  -- an open leg of another source with the same number is no 62, nor is one of the same source with another number
  pub other_source : accept_of (ledger (leg (address_of 9 2 2) (address_of 9 20 5) 300 1 Open ∷ [])) fire_frame begun to_hill 5
      ≡ record { refusal = 0; added = 2; place = 0; ledger = ledger (leg (address_of 9 2 2) (address_of 9 20 5) 300 1 Open ∷ fire_legs) }
  pub other_number : (accept_of (ledger (leg (address_of 9 1 2) (address_of 9 20 5) 301 1 Open ∷ [])) fire_frame begun to_hill 5).refusal ≡ 0
  pub settled : (accept_of (ledger (leg (address_of 9 1 2) (address_of 9 20 5) 300 0 Acknowledged ∷ [])) fire_frame begun to_hill 5).refusal ≡ 0
  -- to any destination
  pub busy : accept_of (ledger (leg (address_of 9 1 2) (address_of 12 7 1) 300 1 Open ∷ [])) fire_frame begun to_hill 5
      ≡ record { refusal = 62; added = 0; place = 0; ledger = ledger (leg (address_of 9 1 2) (address_of 12 7 1) 300 1 Open ∷ []) }
  pub busy_waiting : (accept_of (ledger (leg (address_of 9 1 2) (address_of 12 7 1) 300 1 Waiting ∷ [])) fire_frame begun to_hill 5).refusal ≡ 62
  pub no_ticks : (accept_of (ledger (leg (address_of 9 1 2) (address_of 12 7 1) 300 1 Open ∷ [])) fire_frame begun to_hill 0).refusal ≡ 61
  pub full : (accept_of (record { count = 127; legs = replicate 128 (hill 7 0 Acknowledged) }) fire_frame begun to_hill 5).refusal ≡ 63
  pub room : (accept_of (record { count = 126; legs = replicate 128 (hill 7 0 Acknowledged) }) fire_frame begun to_hill 5).refusal ≡ 0
  -- without <ack_req> nothing is added, and 61 to 63 are not tried
  pub quiet : accept_of (ledger (leg (address_of 9 1 2) (address_of 12 7 1) 300 1 Open ∷ [])) (changed 13 88) begun to_hill 0
      ≡ record { refusal = 0; added = 0; place = 0; ledger = ledger (leg (address_of 9 1 2) (address_of 12 7 1) 300 1 Open ∷ []) }
  -- the frame's number, then 50, 51 and 60
  pub frame : (accept_of (ledger (hill 7 0 Open ∷ [])) fire_body (record { 0 = 64 }) (single 1024 0 (entry Everything 2 true)) 0).refusal ≡ 1
  pub frame_at : (accept_of (ledger (hill 7 0 Open ∷ [])) fire_body (record { 0 = 64 }) (single 1024 0 (entry Everything 2 true)) 0).place ≡ 19
  pub table : (accept_of (ledger (hill 7 0 Open ∷ [])) fire_frame (record { 0 = 64 }) (single 1024 0 (entry Everything 2 true)) 0).refusal ≡ 50
  pub arrival : (accept_of (ledger (hill 7 0 Open ∷ [])) fire_frame (record { 0 = 64 }) to_hill 0).refusal ≡ 51
  pub broken : (accept_of (ledger (hill 7 0 Open ∷ [])) fire_frame begun to_hill 0).refusal ≡ 60
  -- which has no place
  pub broken_at : (accept_of (ledger (hill 7 0 Open ∷ [])) fire_frame begun to_hill 0).place ≡ 0

pub cases : Cases
unfolding fire_body fire_frame to_hill fire_legs any_below first_from first_below same_at repeat_at repeats element_at firsts unless_refused station_in_range in_range same_station same_address length_of count_of fields_of destination_at xor_from outside stray_at out_of_range wrong_version whole_refusal values_refusal_by frame_refusal place_beside frame_place entry_at is_own covers qualifies qualifies_at has_route out_port out_choice target_in_range entry_in_range stray_entry table_in_range call_in_range choose_of leg_at is_open is_open_leg alike ticks_obey leg_obeys broken_at obeys is_open_from is_open_from_at legs_refusal call_refusal accept_refusal leg_for leg_for_at with_legs accept_of
cases =
    record {
      added = refl;
      local = refl;
      other_source = refl;
      other_number = refl;
      settled = refl;
      busy = refl;
      busy_waiting = refl;
      no_ticks = refl;
      full = refl;
      room = refl;
      quiet = refl;
      frame = refl;
      frame_at = refl;
      table = refl;
      arrival = refl;
      broken = refl;
      broken_at = refl;
    }
