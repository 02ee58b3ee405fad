-- The frame of envelope/specs/Cases.antt written from its values, and values for each number.
use Rattle.std.specs.Prelude.{ℕ, ◌≡◌, refl, false, List, [], ◌∷◌}
use Rattle.lists.specs.Places.{any_below, same_at, repeat_at, repeats, element_at, joined}
use Rattle.lists.specs.Refusals.{unless_refused}
use Rattle.buffer.specs.Writing.{Wrote, Refused, wrote_unless}
use Rattle.address.specs.declared.Address.{Address}
use Rattle.address.specs.Address.{address_of, station_in_range, in_range, same_station, same_address}
use Rattle.envelope.specs.declared.Fixed.{Fixed}
use Rattle.envelope.specs.Frame.{xor_from}
use Rattle.envelope.specs.Refusal.{outside, stray_at, out_of_range, wrong_version, values_refusal_by}
use Rattle.envelope.specs.Cases.{fire_body, fire_frame, fire_fields}
use Rattle.envelope_write.specs.Refusal.{frame_write_refusal}
use Rattle.envelope_write.specs.Write.{frame_head, frame_mid, frame_body, frame_bytes, write_frame_of, after_of}

-- 9/20/5 and 9/21/5
abbrev pub fire_to : ℕ → Address
fire_to = element_at (address_of 0 0 0) (address_of 9 20 5 ∷ address_of 9 21 5 ∷ [])

-- "Fire"
abbrev pub fire_text : List ℕ
fire_text = 70 ∷ 105 ∷ 114 ∷ 101 ∷ []

-- other values of some fields, from 9/1 and this port
abbrev pub fields : ℕ → ℕ → ℕ → ℕ → ℕ → ℕ → Fixed
fields port count priority version seq kind =
    record { source = address_of 9 1 port; count = count; length = 0; priority = priority; version = version; ack = false; seq = record { 0 = seq }; kind = kind }

pub record Cases : Type 0 where
  pub written : frame_bytes fire_fields fire_to fire_text ≡ fire_frame
  pub fits : write_frame_of fire_fields fire_to 4 20 ≡ Wrote 20
  pub too_long : write_frame_of fire_fields fire_to 4 19 ≡ Refused 10
  pub buffer : after_of fire_fields fire_to fire_text (1 ∷ 2 ∷ 3 ∷ []) ≡ 1 ∷ 2 ∷ 3 ∷ []
  -- each number from values, the lowest first
  pub none : frame_write_refusal (fields 64 0 0 0 32768 2) fire_to 1024 0 ≡ 4
  pub many : frame_write_refusal (fields 64 64 0 0 32768 2) fire_to 1024 0 ≡ 4
  pub long : frame_write_refusal (fields 64 1 0 0 32768 2) fire_to 1024 0 ≡ 5
  pub longest : frame_write_refusal (fields 2 1 1 1 1 2) fire_to 1023 1036 ≡ 0
  pub source : frame_write_refusal (fields 64 1 0 0 1 2) fire_to 0 0 ≡ 6
  pub seq : frame_write_refusal (fields 2 1 0 0 32768 2) fire_to 0 0 ≡ 6
  pub destination : frame_write_refusal (fields 2 1 0 0 1 2) (λ i. address_of 9 1024 1) 0 0 ≡ 6
  pub priority : frame_write_refusal (fields 2 2 10 0 1 2) (λ i. address_of 9 20 5) 0 0 ≡ 7
  pub equal : frame_write_refusal (fields 2 2 9 0 1 2) (λ i. address_of 9 20 5) 0 0 ≡ 8
  pub version : frame_write_refusal (fields 2 2 9 2 1 2) fire_to 0 0 ≡ 9
  pub room : frame_write_refusal (fields 2 2 9 2 1 3) fire_to 0 15 ≡ 10

pub cases : Cases
unfolding fire_body fire_frame fire_fields xor_from any_below same_at repeat_at repeats element_at joined unless_refused wrote_unless station_in_range in_range same_station same_address outside stray_at out_of_range wrong_version values_refusal_by frame_write_refusal frame_head frame_mid frame_body frame_bytes write_frame_of after_of
cases =
    record {
      written = refl;
      fits = refl;
      too_long = refl;
      buffer = refl;
      none = refl;
      many = refl;
      long = refl;
      longest = refl;
      source = refl;
      seq = refl;
      destination = refl;
      priority = refl;
      equal = refl;
      version = refl;
      room = refl;
    }
