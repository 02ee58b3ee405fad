-- `limits_script::bytes` meets its contract: each number after the first is a byte of the row.
use mathlib.Core.Path.{◌≡◌, sym}
use Rattle.limits_script.specs.Private.{byte_after, bytes_of}
use native.Mathlib.Omega.{arith}
use Rattle.lists.proofs.Places.{row-none, row_next}
use Rattle.limits_script.proofs.bytes.Goals as goal

pub loop-i-init : goal.loop-i-init
loop-i-init c = sym (row-none 63 0 (byte_after c.args.v.now))

pub loop-i-preserved : goal.loop-i-preserved
unfolding byte_after
loop-i-preserved c =
    let l = c.loop-i in
    rw (c.byte.ensures, l.invariant) (row_next 63 0 (byte_after c.args.v.now) l.i (omega arith))

pub returns : goal.returns
unfolding bytes_of
returns c =
    let l = c.loop-i in
    let e : l.i ≡ 63 = omega arith in
    rw (l.invariant, e)
