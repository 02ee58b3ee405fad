-- Where a refused frame is at fault (document 02, Seven): the offset of the first byte of the first field at fault, by the number that refuses it.
use Rattle.std.specs.Prelude.{ℕ, ◌+◌, ◌*◌, ◌-◌, List, ◌||◌, cond, eqb, length, drop}
use Rattle.lists.specs.Places.{any_below, first_below, repeat_at}
use Rattle.address.specs.declared.Address.{Address}
use Rattle.address.specs.Address.{in_range, same_address}
use Rattle.envelope.specs.declared.Fixed.{Fixed}
use Rattle.envelope.specs.Frame.{destinations_offset, count_of, prot_offset, size_of, fields_of, destination_at}
use Rattle.envelope.specs.Refusal.{stray_at, frame_refusal}

-- <length> is the high bits of the word at 3; <dest_count> the low six, so the byte that has it is the second
abbrev pub length_place : ℕ
length_place = 3

abbrev pub count_place : ℕ
count_place = 4

-- the first byte of the destination at a place
abbrev pub destination_place : ℕ → ℕ
destination_place i = 5 + 3 * i

-- the first destination that equals an earlier one
unfoldable pub first_twin : (ℕ → Address) → ℕ → ℕ
first_twin d n = first_below (repeat_at same_address d) n

-- the first field out of range: the source, a destination, <ack&seq>
unfoldable pub stray_place : Fixed → (ℕ → Address) → ℕ
stray_place e d =
    cond (in_range e.source)
    (cond (any_below (stray_at d) e.count) (destination_place (first_below (stray_at d) e.count)) (prot_offset e.count + 1))
    0

-- 1 where the frame ends; 2 the first byte too many; 3 the check character; 4 <dest_count>; 5 <length>; 6 the first field out of range; 8 the first destination
-- that equals an earlier one; 7 and 9 the byte of <prot&priority>, which both fields share; 0 beside no refusal
unfoldable pub place_beside : ℕ → List ℕ → ℕ
place_beside number f =
    cond (eqb number 1) (length f)
    (cond (eqb number 2) (size_of f)
    (cond (eqb number 3) (size_of f - 1)
    (cond (eqb number 4) count_place
    (cond (eqb number 5) length_place
    (cond (eqb number 6) (stray_place (fields_of f) (destination_at (drop destinations_offset f)))
    (cond (eqb number 8) (destination_place (first_twin (destination_at (drop destinations_offset f)) (count_of f)))
    (cond (eqb number 7 || eqb number 9) (prot_offset (count_of f))
    0)))))))

-- the place of a frame's refusal
unfoldable pub frame_place : List ℕ → ℕ
frame_place f = place_beside (frame_refusal f) f
