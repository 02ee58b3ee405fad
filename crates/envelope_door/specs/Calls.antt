-- What C gets of pz_read and pz_write (include/poztecameh.h).
use Rattle.std.specs.Prelude.{ℕ, cond, List, ltb, length, get_or, drop}
use Rattle.buffer.specs.Writing.{lent_after}
use Rattle.lists.specs.Refusals.{refuse, or_else, unless_refused}
use Rattle.envelope.specs.Frame.{destinations_offset, fields_of, destination_at}
use Rattle.envelope.specs.Refusal.{most_destinations, longest_contents, outside, frame_refusal}
use Rattle.envelope.specs.Place.{frame_place}
use Rattle.envelope_write.specs.Refusal.{size_for, frame_write_refusal}
use Rattle.envelope_write.specs.Write.{frame_bytes}
use Rattle.envelope_image.specs.Image.{envelope_size, envelope_bytes, fields_in, destination_held}

-- ---- pz_read

-- the frame's number first, then 10 for an image of m bytes that is too short
unfoldable pub pz_read_refusal : List ℕ → ℕ → ℕ
pz_read_refusal f m = or_else (frame_refusal f) (refuse 10 (ltb m envelope_size) 0)

-- the place of the frame's number, else 0
unfoldable pub pz_read_place : List ℕ → ℕ
pz_read_place f = frame_place f

-- the image after the call
unfoldable pub pz_read_image : List ℕ → List ℕ → List ℕ
pz_read_image f b = lent_after (pz_read_refusal f (length b)) (envelope_bytes (fields_of f) (destination_at (drop destinations_offset f))) b

-- ---- pz_write

-- the number of an image whose ack byte is above 1: 6, unless 4 or 5 comes first
unfoldable pub stray_ack : ℕ → ℕ → ℕ
stray_ack count n = refuse 4 (outside most_destinations count) (refuse 5 (ltb longest_contents n) 6)

-- 10 for an image too short to be read, then 6 in its turn for the ack byte, else the writer's number
unfoldable pub pz_write_refusal : List ℕ → ℕ → ℕ → ℕ
pz_write_refusal b n room =
    refuse 10 (ltb (length b) envelope_size)
    (cond (ltb 1 (get_or b 9 0))
    (stray_ack (fields_in b).count n)
    (frame_write_refusal (fields_in b) (destination_held b) n room))

-- the bytes written, 0 beside a refusal
unfoldable pub pz_write_count : List ℕ → ℕ → ℕ → ℕ
pz_write_count b n room = unless_refused (pz_write_refusal b n room) (size_for (fields_in b) n) 0

-- the buffer after the call
unfoldable pub pz_write_frame : List ℕ → List ℕ → List ℕ → List ℕ
pz_write_frame b l out =
    lent_after (pz_write_refusal b (length l) (length out)) (frame_bytes (fields_in b) (destination_held b) l) out
