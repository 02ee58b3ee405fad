-- `envelope_image::put_destinations` meets its contract. The loop's invariant: the destinations before i are stored.
use mathlib.Core.Path.{◌≡◌}
use lib.ListN.{length}
use lib.Seq.{sets}
use Rattle.lists.specs.Places.{joined}
use Rattle.envelope.specs.Frame.{destination_at}
use Rattle.address_bytes.specs.Wide.{address_bytes}
use Rattle.envelope_image.proofs.putting.put_destinations.Given as goal

abbrev pub invariant-loop-i : goal.invariant-loop-i
invariant-loop-i l =
    (l.image ≡ sets l.initial.image 15 (joined address_bytes (destination_at l.part) l.i)) × (length l.image ≡ length l.initial.image)
