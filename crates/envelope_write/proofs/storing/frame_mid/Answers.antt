-- `envelope_write::storing::frame_mid` meets its contract: `<ack_req>` is the lowest bit of its word.
use Prim.Native.Nat.{◌+◌, ◌*◌, ◌/◌, ◌%◌}
use mathlib.Core.Path.{◌≡◌}
use mir.Val.{bool_byte}
use Rattle.lists.proofs.Bools.{bool-byte, bool_small}
use Rattle.envelope_write.specs.Write.{frame_mid}
use native.Mathlib.Omega.{arith}
use Rattle.envelope_write.proofs.storing.frame_mid.Goals as goal

pub returns : goal.returns
unfolding frame_mid
returns c =
    let w = c.args.e.seq.0 * 2 + bool_byte c.args.e.ack in
    let high : w / 256 % 256 ≡ w / 256 = omega (arith, bool_small c.args.e.ack) in
    rw (c.to_be_bytes.ensures, high, bool-byte c.args.e.ack)
