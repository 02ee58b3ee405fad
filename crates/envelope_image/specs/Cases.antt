-- The image of an envelope by its bytes (include/poztecameh.h), and what is taken from it.
use Rattle.std.specs.Prelude.{ℕ, ◌≡◌, refl, List, [], ◌∷◌, replicate}
use Rattle.lists.specs.Places.{element_at, joined, up_to}
use Rattle.address.specs.Address.{address_of}
use Rattle.envelope.specs.Frame.{with_length}
use Rattle.envelope.specs.Cases.{fire_fields}
use Rattle.envelope_image.specs.Image.{field_bytes, envelope_bytes, fields_in, destination_held}

-- from 9/1/2, 2 destinations, 4 bytes of contents, priority 2, version 1, acknowledgement asked for, number 300, type 2, contents from byte 15; 9/20/5, 9/21/5
unfoldable pub fire_image : List ℕ
fire_image =
    9 ∷ 0 ∷ 1 ∷ 2 ∷ 2 ∷ 0 ∷ 4 ∷ 2 ∷ 1 ∷ 1 ∷ 1 ∷ 44 ∷ 2 ∷ 0 ∷ 15 ∷
    9 ∷ 0 ∷ 20 ∷ 5 ∷ 9 ∷ 0 ∷ 21 ∷ 5 ∷ replicate 244 0

pub record Cases : Type 0 where
  pub put : envelope_bytes fire_fields (element_at (address_of 0 0 0) (address_of 9 20 5 ∷ address_of 9 21 5 ∷ [])) ≡ fire_image
  -- the length is not looked at
  pub taken : fields_in fire_image ≡ with_length fire_fields 0
  pub first : destination_held fire_image 0 ≡ address_of 9 20 5
  pub second : destination_held fire_image 1 ≡ address_of 9 21 5
  pub unused : destination_held fire_image 62 ≡ address_of 0 0 0

pub cases : Cases
unfolding fire_fields fire_image element_at joined up_to field_bytes envelope_bytes fields_in destination_held
cases = record { put = refl; taken = refl; first = refl; second = refl; unused = refl }
