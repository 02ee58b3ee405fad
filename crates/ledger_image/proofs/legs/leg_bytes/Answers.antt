-- `ledger_image::legs::leg_bytes` meets its contract: the bytes of two addresses, two words and a standing, one by one.
use native.Mathlib.Omega.{arith}
use Rattle.buffer.proofs.Words.{two-bytes}
use Rattle.ledger_image.proofs.LegLaws.{leg-made}
use Rattle.ledger_image.proofs.legs.leg_bytes.Goals as goal

pub returns : goal.returns
returns c =
    let g = c.args.g in
    leg-made g c.address_bytes-from.ensures c.address_bytes-to.ensures
    (two-bytes g.seq.0 (omega arith) c.to_be_bytes-n.ensures) (two-bytes g.ticks (omega arith) c.to_be_bytes-t.ensures) c.standing_bytes-s.ensures
