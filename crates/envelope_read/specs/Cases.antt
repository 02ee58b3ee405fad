-- A frame read, and a refused one: its fields, its contents and its destinations.
use Rattle.std.specs.Prelude.{◌≡◌, refl, false, [], ◌∷◌, replicate}
use Rattle.lists.specs.Places.{any_below, same_at, repeat_at, repeats, firsts, row}
use Rattle.lists.specs.Refusals.{unless_refused}
use Rattle.address.specs.Address.{address_of, station_in_range, in_range, same_station, same_address}
use Rattle.envelope.specs.Frame.{length_of, count_of, fields_of, destination_at, xor_from}
use Rattle.envelope.specs.Refusal.{outside, stray_at, out_of_range, wrong_version, whole_refusal, values_refusal_by, frame_refusal}
use Rattle.envelope.specs.Cases.{fire_body, fire_frame, fire_fields}
use Rattle.envelope_read.specs.Read.{Envelope, Refused}
use Rattle.envelope.specs.Place.{first_twin, stray_place, place_beside, frame_place}
use Rattle.envelope_read.specs.Read.{read_refusal, read_place, read_fields, read_frame_of}
use Rattle.envelope_read.specs.Parts.{contents_of, contents_offset_of, destinations_of}

pub record Cases : Type 0 where
  pub read : read_frame_of fire_frame ≡ Envelope fire_fields
  pub refused : read_frame_of (9 ∷ []) ≡ Refused 1 1
  pub refusal : read_refusal (read_frame_of (9 ∷ [])) ≡ 1
  pub place : read_place (read_frame_of (9 ∷ [])) ≡ 1
  pub no_place : read_place (read_frame_of fire_frame) ≡ 0
  -- beside a refusal every field is 0
  pub zeros : read_fields (read_frame_of []) ≡ record { source = address_of 0 0 0; count = 0; length = 0; priority = 0; version = 0; ack = false; seq = record { 0 = 0 }; kind = 0 }
  pub contents : contents_of fire_frame ≡ 70 ∷ 105 ∷ 114 ∷ 101 ∷ []
  pub begins : contents_offset_of fire_frame ≡ 15
  pub no_contents : contents_of [] ≡ []
  pub at_start : contents_offset_of [] ≡ 0
  pub destinations : destinations_of fire_frame ≡ record { count = 2; addresses = address_of 9 20 5 ∷ address_of 9 21 5 ∷ replicate 61 (address_of 0 0 0) }
  pub no_destinations : destinations_of [] ≡ record { count = 0; addresses = replicate 63 (address_of 0 0 0) }

pub cases : Cases
unfolding fire_body fire_frame fire_fields length_of count_of fields_of destination_at xor_from any_below same_at repeat_at repeats firsts row unless_refused station_in_range in_range same_station same_address outside stray_at out_of_range wrong_version whole_refusal values_refusal_by frame_refusal first_twin stray_place place_beside frame_place read_frame_of contents_of contents_offset_of destinations_of
cases =
    record {
      read = refl;
      refused = refl;
      refusal = refl;
      place = refl;
      no_place = refl;
      zeros = refl;
      contents = refl;
      begins = refl;
      no_contents = refl;
      at_start = refl;
      destinations = refl;
      no_destinations = refl;
    }
