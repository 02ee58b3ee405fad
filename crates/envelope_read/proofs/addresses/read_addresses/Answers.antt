-- `envelope_read::addresses::read_addresses` meets its contract. The loop's invariant: the first i destinations are in the row.
use mathlib.Core.Path.{sym, ◌∙◌}
use Rattle.lists.proofs.Places.{row-none, row_next}
use Rattle.address.specs.Address.{zero_address}
use Rattle.envelope.specs.Frame.{destination_at}
use native.Mathlib.Omega.{arith}
use Rattle.envelope_read.proofs.addresses.read_addresses.Goals as goal

pub loop-i-init : goal.loop-i-init
loop-i-init c = c.no_addresses-addresses.ensures ∙ sym (row-none 63 zero_address (destination_at c.args.part.now))

pub loop-i-preserved : goal.loop-i-preserved
unfolding destination_at
loop-i-preserved c =
    let l = c.loop-i in
    let d = destination_at c.args.part.now in
    rw (c.packed_in.ensures, l.invariant) (row_next 63 zero_address d l.i (omega arith))
