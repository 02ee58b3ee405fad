-- The image of a message, 5 bytes (include/poztecameh.h): node place 1, arrival port 1, nodes met 2 (the node at place p is the digit worth 2 to the p),
-- ending 1.
use Rattle.std.specs.Prelude.{ℕ, List, [], ◌∷◌, ◌++◌, get_or}
use Rattle.buffer.specs.Bytes.{word_at, word_bytes}
use Rattle.class.specs.declared.Message.{Message}

abbrev pub message_size : ℕ
message_size = 5

-- the message in an image: every five bytes are one
unfoldable pub message_in : List ℕ → Message
message_in b = record { at = get_or b 0 0; arrival = record { 0 = get_or b 1 0 }; met = word_at b 2; ending = get_or b 4 0 }

-- its bytes
unfoldable pub message_bytes : Message → List ℕ
message_bytes m = m.at ∷ m.arrival.0 ∷ (word_bytes m.met ++ (m.ending ∷ []))
