-- `envelope_image::field_bytes` meets its contract: the bytes of the address, and then the fields one by one.
use Prim.Native.Nat.{◌+◌, ◌*◌, ◌/◌, ◌%◌}
use mathlib.Core.Path.{◌≡◌}
use Rattle.lists.proofs.Bools.{bool-byte}
use Rattle.envelope_image.specs.Image.{field_bytes}
use native.Mathlib.Omega.{arith}
use Rattle.envelope_image.proofs.putting.field_bytes.Goals as goal

pub returns : goal.returns
unfolding field_bytes
returns c =
    let e = c.args.e in
    let long : e.length / 256 % 256 ≡ e.length / 256 = omega arith in
    let seq : e.seq.0 / 256 % 256 ≡ e.seq.0 / 256 = omega arith in
    let at : (9 + 3 * e.count) / 256 % 256 ≡ (9 + 3 * e.count) / 256 = omega arith in
    rw (c.address_bytes.ensures, c.to_be_bytes.ensures, c.to_be_bytes-2.ensures, c.to_be_bytes-3.ensures, long, seq, at, bool-byte e.ack)
