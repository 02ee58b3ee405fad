-- Which numbers the two calls give: those of the reader or the writer, and 10 for an image that is too short.
use mathlib.Core.Path.{refl}
use mathlib.Core.List.{[], ◌∷◌}
use lib.Dec.{ltb}
use lib.ListN.{length, get_or}
use Rattle.lists.proofs.Given.{tested, chosen, either, among-more}
use Rattle.envelope.specs.Refusal.{outside, frame_refusal}
use Rattle.envelope_read.specs.Promises.{reader_refusals}
use Rattle.envelope_read.proofs.Promises.{reader-numbers}
use Rattle.envelope_write.proofs.Promises.{writer-numbers}
use Rattle.envelope_image.specs.Image.{fields_in, destination_held}
use Rattle.envelope_door.specs.Calls.{stray_ack, pz_read_refusal, pz_write_refusal}
use Rattle.envelope_door.specs.Promises.{pz_read_refusals, PzReadNumbers, pz_write_refusals, PzWriteNumbers}

pub pz-read-numbers : PzReadNumbers
unfolding pz_read_refusal
pz-read-numbers f b m =
    (either pz_read_refusals (frame_refusal f) (record { is = among-more (frame_refusal f) reader_refusals (10 ∷ []) (reader-numbers f b) })
    (tested pz_read_refusals 10 (ltb m 267) refl (record { is = refl }))).is

pub pz-write-numbers : PzWriteNumbers
unfolding pz_write_refusal stray_ack
pz-write-numbers b n room =
    (tested pz_write_refusals 10 (ltb (length b) 267) refl
    (chosen pz_write_refusals (ltb 1 (get_or b 9 0))
    (tested pz_write_refusals 4 (outside 63 (fields_in b).count) refl
    (tested pz_write_refusals 5 (ltb 1023 n) refl
    (record { is = refl })))
    (record { is = writer-numbers (fields_in b) (destination_held b) n room }))).is
