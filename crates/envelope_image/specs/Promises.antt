-- An envelope put into an image is taken from it again. proofs/Undo.antt has the theorem.
use Rattle.std.specs.Prelude.{ℕ, ◌+◌, ◌*◌, ◌<◌, ◌≤◌, ◌≡◌, List, ◌++◌, length, get_or}
use Rattle.buffer.specs.Bytes.{word_at}
use Rattle.address.specs.declared.Address.{Address}
use Rattle.envelope.specs.declared.Fixed.{Fixed}
use Rattle.envelope.specs.Frame.{with_length}
use Rattle.envelope.specs.Refusal.{most_destinations}
use Rattle.envelope_image.specs.Image.{envelope_size, envelope_bytes, fields_in, destination_held}

-- all but the length, which is not looked at; the image may be longer
pub record EnvelopeUndo : Type 0 where
  pub size : (e : Fixed) (d : ℕ → Address) → length (envelope_bytes e d) ≡ envelope_size
  pub fields : (e : Fixed) (d : ℕ → Address) (rest : List ℕ) → fields_in (envelope_bytes e d ++ rest) ≡ with_length e 0
  pub destinations : (e : Fixed) (d : ℕ → Address) (rest : List ℕ) (i : ℕ) → i < e.count → i < most_destinations → destination_held (envelope_bytes e d ++ rest) i ≡ d i
  -- the contents' length and where they begin stand in the image too, though nothing looks at them again
  pub long : (e : Fixed) (d : ℕ → Address) (rest : List ℕ) → word_at (envelope_bytes e d ++ rest) 5 ≡ e.length
  pub begins : (e : Fixed) (d : ℕ → Address) (rest : List ℕ) → word_at (envelope_bytes e d ++ rest) 13 ≡ 9 + 3 * e.count
  -- the ack byte is one
  pub ack : (e : Fixed) (d : ℕ → Address) (rest : List ℕ) → get_or (envelope_bytes e d ++ rest) 9 0 ≤ 1
