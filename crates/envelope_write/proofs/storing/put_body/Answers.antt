-- `envelope_write::storing::put_body` meets its contract: four runs of stores, one after the other, are the body.
use Rattle.lists.specs.Places.{element_at}
use Rattle.address.specs.Address.{zero_address}
use Rattle.envelope_write.proofs.Laws.{body-puts}
use Rattle.envelope_write.proofs.storing.put_body.Goals as goal

pub returns : goal.returns
returns c =
    let a = c.args in
    rw (
      c.put_all-3.ensures,
      c.put_all-2.ensures,
      c.frame_mid-mid.ensures,
      c.put_addresses.ensures,
      c.put_all.ensures,
      c.frame_head-head.ensures,
    )
    (body-puts a.e (element_at zero_address a.addresses) a.contents.now a.out.now)
