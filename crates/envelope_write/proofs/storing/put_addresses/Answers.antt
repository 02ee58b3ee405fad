-- `envelope_write::storing::put_addresses` meets its contract. The loop's invariant: the addresses before i are stored.
use mathlib.Core.Path.{refl}
use Rattle.lists.specs.Places.{element_at}
use Rattle.lists.proofs.Places.{joined-none}
use Rattle.lists.proofs.Stores.{joined-stored}
use Rattle.address.specs.Address.{zero_address}
use Rattle.address_bytes.specs.Packed.{packed_bytes}
use Rattle.envelope_write.proofs.Laws.{length-pack}
use native.Mathlib.Omega.{arith}
use Rattle.envelope_write.proofs.storing.put_addresses.Goals as goal

pub loop-i-init : goal.loop-i-init
loop-i-init c = (rw joined-none, refl)

pub loop-i-preserved : goal.loop-i-preserved
unfolding element_at
loop-i-preserved c =
    let l = c.loop-i in
    let a = c.args in (
      rw (c.put_all.ensures, l.invariant.0, c.packed_bytes-b.ensures) (joined-stored packed_bytes 3 length-pack a.out.now a.at (element_at zero_address a.addresses) l.i),
      omega (arith, c.put_all.auto.out),
    )
