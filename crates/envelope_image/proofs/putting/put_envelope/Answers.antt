-- `envelope_image::put_envelope` meets its contract: the fields, the destinations and, where some are unused, zeros.
use mathlib.Core.Path.{◌∙◌}
use native.Mathlib.Omega.{arith}
use Rattle.envelope.specs.Frame.{destination_at}
use Rattle.envelope_image.proofs.Laws.{image-full, image-padded}
use Rattle.envelope_image.proofs.putting.put_envelope.Goals as goal

pub returns-then-e-gt-MOST_DESTINATIONS : goal.returns-then-e-gt-MOST_DESTINATIONS
returns-then-e-gt-MOST_DESTINATIONS c =
    c.put_destinations.ensures ∙ rw (c.put_all.ensures, c.field_bytes-b.ensures) (image-full c.args.image.now c.args.e (destination_at c.args.part.now) (omega arith))

pub returns : goal.returns
returns c =
    c.put_zeros.ensures ∙ rw (c.put_destinations-2.ensures, c.put_all.ensures, c.field_bytes-b.ensures) (image-padded c.args.image.now c.args.e (destination_at c.args.part.now) c.if-e-gt-MOST_DESTINATIONS.false)
