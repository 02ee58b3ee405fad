-- A message by its bytes: at node place 3, in by port 2, the nodes 0, 1, 3 and 8 met, ended with 4.
use Rattle.std.specs.Prelude.{◌≡◌, refl, [], ◌∷◌}
use Rattle.class.specs.declared.Message.{Message}
use Rattle.class_image.specs.Message.{message_in, message_bytes}

unfoldable pub sample : Message
sample = record { at = 3; arrival = record { 0 = 2 }; met = 267; ending = 4 }

pub record Cases : Type 0 where
  pub bytes : message_bytes sample ≡ 3 ∷ 2 ∷ 1 ∷ 11 ∷ 4 ∷ []
  pub read : message_in (3 ∷ 2 ∷ 1 ∷ 11 ∷ 4 ∷ 9 ∷ []) ≡ sample
  -- what an image lacks is 0
  pub short : message_in (3 ∷ []) ≡ record { at = 3; arrival = record { 0 = 0 }; met = 0; ending = 0 }

pub cases : Cases
unfolding sample message_in message_bytes
cases = record { bytes = refl; read = refl; short = refl }
