-- `envelope_image::first_addresses` meets its contract. The loop's invariant: the first i destinations are in the row.
use mathlib.Core.Path.{◌≡◌, sym}
use Rattle.lists.proofs.Places.{row-none, row_next}
use Rattle.address.specs.Address.{zero_address}
use Rattle.envelope_image.specs.Image.{destination_held}
use native.Mathlib.Omega.{arith}
use borrow.Author.Rules.{rules}
use Rattle.envelope_image.proofs.taking.first_addresses.Goals as goal

pub loop-i-init : goal.loop-i-init
loop-i-init c =
    let none : c.default-addresses.result ≡ zero_address = search rules in
    rw none (sym (row-none 63 zero_address (destination_held c.args.b.now)))

pub loop-i-preserved : goal.loop-i-preserved
unfolding destination_held
loop-i-preserved c =
    let l = c.loop-i in
    let d = destination_held c.args.b.now in
    rw (c.address_in.ensures, l.invariant) (row_next 63 zero_address d l.i (omega arith))
