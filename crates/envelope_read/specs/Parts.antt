-- What the readers of a frame's parts give.
use Rattle.std.specs.Prelude.{ℕ, List, [], take, drop, replicate}
use Rattle.lists.specs.Places.{row}
use Rattle.lists.specs.Refusals.{unless_refused}
use Rattle.address.specs.Address.{zero_address}
use Rattle.envelope.specs.Frame.{destinations_offset, count_of, length_of, contents_offset, destination_at}
use Rattle.envelope.specs.Refusal.{frame_refusal}
use Rattle.envelope_read.specs.declared.Destinations.{Destinations}

-- the contents, and where in the frame they begin; of a refused frame nothing, at its start
unfoldable pub contents_of : List ℕ → List ℕ
contents_of f = unless_refused (frame_refusal f) (take (length_of f) (drop (contents_offset (count_of f)) f)) []

unfoldable pub contents_offset_of : List ℕ → ℕ
contents_offset_of f = unless_refused (frame_refusal f) (contents_offset (count_of f)) 0

-- the destinations in 63 places, the unused ones zero; of a refused frame none
unfoldable pub destinations_of : List ℕ → Destinations
destinations_of f =
    unless_refused (frame_refusal f)
    (record { count = count_of f; addresses = row 63 zero_address (destination_at (drop destinations_offset f)) (count_of f) })
    (record { count = 0; addresses = replicate 63 zero_address })
