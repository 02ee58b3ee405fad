-- `envelope_write::storing::frame_head` meets its contract: the three bytes of the source, and a word.
use Prim.Native.Nat.{◌+◌, ◌*◌, ◌/◌, ◌%◌}
use mathlib.Core.Path.{◌≡◌}
use Rattle.envelope_write.specs.Write.{frame_head}
use native.Mathlib.Omega.{arith}
use Rattle.envelope_write.proofs.storing.frame_head.Goals as goal

pub returns : goal.returns
unfolding frame_head
returns c =
    let w = c.args.n * 64 + c.args.e.count in
    let high : w / 256 % 256 ≡ w / 256 = omega arith in
    rw (c.to_be_bytes.ensures, c.packed_bytes.ensures, high)
