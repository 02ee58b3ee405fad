-- `envelope_write::keys_of` meets its contract. The loop's invariant: the first i keys are in the row.
use mathlib.Core.Path.{sym}
use Rattle.lists.specs.Places.{element_at}
use Rattle.lists.proofs.Places.{row-none, row_next}
use Rattle.address.specs.Address.{zero_address}
use Rattle.envelope.specs.Private.{key_at}
use native.Mathlib.Omega.{arith}
use Rattle.envelope_write.proofs.refusing.keys_of.Goals as goal

pub loop-i-init : goal.loop-i-init
loop-i-init c = sym (row-none 63 0 (key_at (element_at zero_address c.args.addresses)))

pub loop-i-preserved : goal.loop-i-preserved
unfolding key_at element_at
loop-i-preserved c =
    let l = c.loop-i in
    let d = key_at (element_at zero_address c.args.addresses) in
    rw (c.address_key.ensures, l.invariant) (row_next 63 0 d l.i (omega arith))
