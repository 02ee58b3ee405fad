-- `class_image::put_message` meets its contract: the five bytes are `message_bytes`.
use Prim.Native.Nat.{◌/◌, ◌%◌}
use mathlib.Core.Path.{◌≡◌}
use native.Mathlib.Omega.{arith}
use Rattle.buffer.specs.Bytes.{word_bytes}
use Rattle.class_image.specs.Message.{message_bytes}
use Rattle.class_image.proofs.put_message.Goals as goal

pub returns : goal.returns
unfolding message_bytes
returns c =
    let met = c.args.m.met in
    let high : met / 256 % 256 ≡ met / 256 = omega arith in
    let two : c.to_be_bytes.result ≡ word_bytes met = rw high at c.to_be_bytes.ensures in
    rw two at c.put_all.ensures
