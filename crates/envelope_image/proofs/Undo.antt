-- The theorem of the image of an envelope: envelope-undo. The fields and each destination are read from the bytes that they were put into.
use Prim.Native.Nat.{ℕ, ◌+◌, ◌*◌, ◌<◌, ◌≤◌}
use mathlib.Core.Path.{◌≡◌, refl, ap, ◌∙◌}
use mathlib.Core.Bool.{Bool, true, false, cond}
use mathlib.Core.List.{List, ◌++◌, append_assoc}
use native.Mathlib.Omega.{arith}
use lib.Dec.{eqb}
use lib.ListN.{length, get_or, length-append}
use lib.Seq.{get_or-append-add}
use borrow.Author.Tests.{lt-ltb}
use Rattle.lists.specs.Places.{joined, up_to}
use Rattle.lists.proofs.Places.{joined_at, length-joined}
use Rattle.buffer.specs.Bytes.{word_at}
use Rattle.address.specs.declared.Address.{Address}
use Rattle.address.specs.Address.{zero_address}
use Rattle.address_bytes.specs.Wide.{address_bytes}
use Rattle.buffer.proofs.Words.{word_back}
use Rattle.address_bytes.proofs.WideLaws.{length-address, address-back}
use Rattle.envelope.specs.declared.Fixed.{Fixed}
use Rattle.envelope.specs.Frame.{with_length}
use Rattle.envelope_image.specs.Image.{field_bytes, envelope_bytes, fields_in, destination_held}
use Rattle.envelope_image.specs.Promises.{EnvelopeUndo}

bit-back : (a : Bool) → eqb (cond a 1 0) 1 ≡ a
bit-back true = refl
bit-back false = refl

bit-small : (a : Bool) → cond {A = ℕ} a 1 0 ≤ 1
bit-small true = omega arith
bit-small false = omega arith

size_back : (e : Fixed) (d : ℕ → Address) → length (envelope_bytes e d) ≡ 267
unfolding envelope_bytes field_bytes
size_back e d = simp length-append (omega (arith, length-joined address_bytes 4 length-address (up_to e.count zero_address d) 63))

module _ (e : Fixed) (d : ℕ → Address) (rest : List ℕ) where
  fields_back : fields_in (envelope_bytes e d ++ rest) ≡ with_length e 0
  unfolding envelope_bytes field_bytes fields_in
  fields_back = rw (word_back e.source.node.0, word_back e.seq.0, bit-back e.ack)

  -- the byte k of the address at place i
  stands : (i : ℕ) → i < 63 → (k n : ℕ) → n ≡ 15 + (4 * i + k) → k < 4
      → get_or (envelope_bytes e d ++ rest) n 0 ≡ get_or (address_bytes (up_to e.count zero_address d i)) k 0
  unfolding envelope_bytes field_bytes
  stands i h k n q m =
      let u = up_to e.count zero_address d in
      ap (λ (n : ℕ). get_or (envelope_bytes e d ++ rest) n 0) q
      ∙ rw append_assoc (get_or-append-add (field_bytes e) (joined address_bytes u 63 ++ rest) (4 * i + k) 0)
      ∙ joined_at address_bytes 4 length-address u 63 i k h m rest

  destination-back : (i : ℕ) → i < e.count → i < 63 → destination_held (envelope_bytes e d ++ rest) i ≡ d i
  unfolding destination_held up_to
  destination-back i c h =
      address-back (up_to e.count zero_address d i) (envelope_bytes e d ++ rest) (15 + 4 * i)
      (stands i h 0 (15 + 4 * i) (omega arith) (omega arith))
      (stands i h 1 (15 + 4 * i + 1) (omega arith) (omega arith))
      (stands i h 2 (15 + 4 * i + 1 + 1) (omega arith) (omega arith))
      (stands i h 3 (15 + 4 * i + 3) (omega arith) (omega arith))
      ∙ rw (lt-ltb i e.count c)

  long-back : word_at (envelope_bytes e d ++ rest) 5 ≡ e.length
  unfolding envelope_bytes field_bytes
  long-back = word_back e.length

  begins-back : word_at (envelope_bytes e d ++ rest) 13 ≡ 9 + 3 * e.count
  unfolding envelope_bytes field_bytes
  begins-back = word_back (9 + 3 * e.count)

  ack-back : get_or (envelope_bytes e d ++ rest) 9 0 ≤ 1
  unfolding envelope_bytes field_bytes
  ack-back = bit-small e.ack

pub envelope-undo : EnvelopeUndo
envelope-undo = record { size = size_back; fields = fields_back; destinations = destination-back; long = long-back; begins = begins-back; ack = ack-back }
