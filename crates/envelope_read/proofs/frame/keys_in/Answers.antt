-- `envelope_read::frame::keys_in` meets its contract. The loop's invariant: the first i keys are in the row.
use mathlib.Core.Path.{sym}
use Rattle.lists.proofs.Places.{row-none, row_next}
use Rattle.envelope.specs.Frame.{destination_at}
use Rattle.envelope.specs.Private.{key_at}
use native.Mathlib.Omega.{arith}
use Rattle.envelope_read.proofs.frame.keys_in.Goals as goal

pub loop-i-init : goal.loop-i-init
loop-i-init c = sym (row-none 63 0 (key_at (destination_at c.args.part.now)))

pub loop-i-preserved : goal.loop-i-preserved
unfolding key_at destination_at
loop-i-preserved c =
    let l = c.loop-i in
    let d = key_at (destination_at c.args.part.now) in
    rw (c.address_key.ensures, c.packed_in.ensures, l.invariant) (row_next 63 0 d l.i (omega arith))
