-- What C gets of a frame and of an image, by example.
use Rattle.std.specs.Prelude.{◌≡◌, refl, [], ◌∷◌, ◌++◌, replicate, set}
use Rattle.lists.specs.Places.{any_below, same_at, repeat_at, repeats, element_at, joined, up_to}
use Rattle.lists.specs.Refusals.{unless_refused}
use Rattle.address.specs.Address.{station_in_range, in_range, same_station, same_address}
use Rattle.envelope.specs.Frame.{length_of, count_of, fields_of, destination_at, xor_from}
use Rattle.envelope.specs.Refusal.{outside, stray_at, out_of_range, wrong_version, whole_refusal, values_refusal_by, frame_refusal}
use Rattle.envelope.specs.Place.{place_beside, frame_place}
use Rattle.envelope.specs.Cases.{fire_body, fire_frame}
use Rattle.envelope_write.specs.Refusal.{frame_write_refusal}
use Rattle.envelope_write.specs.Write.{frame_head, frame_mid, frame_body, frame_bytes}
use Rattle.envelope_write.specs.Cases.{fire_text}
use Rattle.envelope_image.specs.Image.{field_bytes, envelope_bytes, fields_in, destination_held}
use Rattle.envelope_image.specs.Cases.{fire_image}
use Rattle.envelope_door.specs.Calls.{pz_read_refusal, pz_read_place, pz_read_image, stray_ack, pz_write_refusal, pz_write_count, pz_write_frame}

pub record Cases : Type 0 where
  -- a byte after the image stays
  pub read : pz_read_image fire_frame (replicate 267 7 ++ (8 ∷ [])) ≡ fire_image ++ (8 ∷ [])
  pub fits : pz_read_refusal fire_frame 267 ≡ 0
  pub short : pz_read_refusal fire_frame 266 ≡ 10
  pub frame_first : pz_read_refusal fire_body 0 ≡ 1
  -- where the frame is at fault; 0 beside 10
  pub at : pz_read_place fire_body ≡ 19
  pub nowhere : pz_read_place fire_frame ≡ 0
  -- and so does one after the frame
  pub write : pz_write_frame fire_image fire_text (replicate 20 7 ++ (8 ∷ [])) ≡ fire_frame ++ (8 ∷ [])
  pub count : pz_write_count fire_image 4 20 ≡ 20
  pub none : pz_write_count fire_image 4 19 ≡ 0
  pub no_image : pz_write_refusal (9 ∷ []) 1024 0 ≡ 10
  -- an ack byte of 2: 6 in its turn
  pub stray : pz_write_refusal (set fire_image 9 2) 4 19 ≡ 6
  pub stray_long : pz_write_refusal (set fire_image 9 2) 1024 19 ≡ 5
  pub stray_none : pz_write_refusal (set (set fire_image 9 2) 4 0) 1024 19 ≡ 4

pub cases : Cases
unfolding fire_body fire_frame fire_image length_of count_of fields_of destination_at xor_from any_below same_at repeat_at repeats element_at joined up_to unless_refused station_in_range in_range same_station same_address outside stray_at out_of_range wrong_version whole_refusal values_refusal_by frame_refusal frame_write_refusal frame_head frame_mid frame_body frame_bytes field_bytes envelope_bytes fields_in destination_held place_beside frame_place pz_read_refusal pz_read_place pz_read_image stray_ack pz_write_refusal pz_write_count pz_write_frame
cases =
    record {
      read = refl;
      fits = refl;
      short = refl;
      frame_first = refl;
      at = refl;
      nowhere = refl;
      write = refl;
      count = refl;
      none = refl;
      no_image = refl;
      stray = refl;
      stray_long = refl;
      stray_none = refl;
    }
