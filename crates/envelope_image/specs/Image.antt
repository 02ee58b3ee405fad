-- The image of an envelope, 267 bytes (include/poztecameh.h): source 4, count 1, length 2, priority 1, version 1, ack 1, seq 2, type 1, offset of the
-- contents in the frame 2, then 63 destinations of 4.
use Rattle.std.specs.Prelude.{ℕ, ◌+◌, ◌*◌, cond, List, [], ◌∷◌, ◌++◌, eqb, get_or}
use Rattle.lists.specs.Places.{joined, up_to}
use Rattle.buffer.specs.Bytes.{word_at, word_bytes}
use Rattle.address.specs.declared.Address.{Address}
use Rattle.address.specs.Address.{zero_address}
use Rattle.address_bytes.specs.Wide.{address_size, address_bytes, address_in}
use Rattle.envelope.specs.declared.Fixed.{Fixed}
use Rattle.envelope.specs.Frame.{contents_offset}
use Rattle.envelope.specs.Refusal.{most_destinations}

abbrev pub envelope_size : ℕ
envelope_size = 267

-- the bytes before the destinations
abbrev pub fields_size : ℕ
fields_size = 15

-- ---- an envelope put into an image

-- the first 15 bytes: the fixed fields, and where in its frame the contents begin
unfoldable pub field_bytes : Fixed → List ℕ
field_bytes e =
    address_bytes e.source
    ++ (e.count ∷ [])
    ++ word_bytes e.length
    ++ (e.priority ∷ e.version ∷ cond e.ack 1 0 ∷ [])
    ++ word_bytes e.seq.0
    ++ (e.kind ∷ [])
    ++ word_bytes (contents_offset e.count)

-- the fields, then all 63 places of the destinations d, the unused ones zero
unfoldable pub envelope_bytes : Fixed → (ℕ → Address) → List ℕ
envelope_bytes e d = field_bytes e ++ joined address_bytes (up_to e.count zero_address d) most_destinations

-- ---- the envelope in an image; its length and its offset are not looked at

unfoldable pub fields_in : List ℕ → Fixed
fields_in b =
    record {
      source = address_in b 0;
      count = get_or b 4 0;
      length = 0;
      priority = get_or b 7 0;
      version = get_or b 8 0;
      ack = eqb (get_or b 9 0) 1;
      seq = record { 0 = word_at b 10 };
      kind = get_or b 12 0;
    }

unfoldable pub destination_held : List ℕ → ℕ → Address
destination_held b i = address_in b (fields_size + address_size * i)
