-- `envelope_write::storing::put_frame` meets its contract: the check character is that of the body, which stands in the buffer.
use Rattle.lists.specs.Places.{element_at}
use Rattle.address.specs.Address.{zero_address}
use Rattle.envelope_write.proofs.Laws.{body-stored, frame-puts}
use native.Mathlib.Omega.{arith}
use Rattle.envelope_write.proofs.storing.put_frame.Goals as goal

pub returns : goal.returns
returns c =
    let a = c.args in (
      omega arith,
      rw (
        c.check-x.ensures,
        c.put_body.ensures,
        body-stored a.e (element_at zero_address a.addresses) a.contents.now a.out.now (omega (arith, c.before.before.before.before.before.before.before.before.before.requires.roomy)),
      )
          (frame-puts a.e (element_at zero_address a.addresses) a.contents.now a.out.now),
    )
