-- The bytes of an envelope that is given as values, and what the writer does with the buffer that it is lent.
use Rattle.std.specs.Prelude.{ℕ, ◌+◌, ◌*◌, List, [], ◌∷◌, ◌++◌, cond, length}
use Rattle.buffer.specs.Bytes.{word_bytes}
use Rattle.lists.specs.Places.{joined}
use Rattle.buffer.specs.Writing.{Written, wrote_unless, lent_after}
use Rattle.address.specs.declared.Address.{Address}
use Rattle.address_bytes.specs.Packed.{packed_bytes}
use Rattle.envelope.specs.declared.Fixed.{Fixed}
use Rattle.envelope.specs.Frame.{check_of}
use Rattle.envelope_write.specs.Refusal.{size_for, frame_write_refusal}

-- <source> and <count&length>, with n the length of the contents; the fields' own length is not looked at
unfoldable pub frame_head : Fixed → ℕ → List ℕ
frame_head e n = packed_bytes e.source ++ word_bytes (n * 64 + e.count)

-- <prot&priority>, <ack&seq> and <message_type>
unfoldable pub frame_mid : Fixed → List ℕ
frame_mid e = ((e.priority * 16 + e.version) ∷ []) ++ word_bytes (e.seq.0 * 2 + cond e.ack 1 0) ++ (e.kind ∷ [])

-- all before the check character, of the fields, the destinations d and the contents l: the fields in the order of <envelope>
unfoldable pub frame_body : Fixed → (ℕ → Address) → List ℕ → List ℕ
frame_body e d l = frame_head e (length l) ++ joined packed_bytes d e.count ++ frame_mid e ++ l

-- the whole frame
unfoldable pub frame_bytes : Fixed → (ℕ → Address) → List ℕ → List ℕ
frame_bytes e d l = frame_body e d l ++ (check_of (frame_body e d l) ∷ [])

-- the number of bytes written, or the refusal
unfoldable pub write_frame_of : Fixed → (ℕ → Address) → ℕ → ℕ → Written
write_frame_of e d n room = wrote_unless (frame_write_refusal e d n room) (size_for e n)

-- what the buffer then holds
unfoldable pub after_of : Fixed → (ℕ → Address) → List ℕ → List ℕ → List ℕ
after_of e d l out = lent_after (frame_write_refusal e d (length l) (length out)) (frame_bytes e d l) out
