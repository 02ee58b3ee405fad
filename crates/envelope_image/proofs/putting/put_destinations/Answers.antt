-- `envelope_image::put_destinations` meets its contract. The loop's invariant: the destinations before i are stored.
use mathlib.Core.Path.{refl}
use Rattle.lists.proofs.Places.{joined-none}
use Rattle.lists.proofs.Stores.{joined-stored}
use Rattle.envelope.specs.Frame.{destination_at}
use Rattle.address_bytes.specs.Wide.{address_bytes}
use Rattle.address_bytes.proofs.WideLaws.{length-address}
use native.Mathlib.Omega.{arith}
use Rattle.envelope_image.proofs.putting.put_destinations.Goals as goal

pub loop-i-init : goal.loop-i-init
loop-i-init c = (rw joined-none, refl)

pub loop-i-preserved : goal.loop-i-preserved
unfolding destination_at
loop-i-preserved c =
    let l = c.loop-i in
    let a = c.args in (
      rw (c.put_all.ensures, l.invariant.0, c.address_bytes-b.ensures, c.packed_in.ensures)
          (joined-stored address_bytes 4 length-address a.image.now 15 (destination_at a.part.now) l.i),
      omega (arith, c.put_all.auto.out),
    )
