-- `envelope_write::refusing::frame_write_refusal` meets its contract: the values' refusal, by their keys, and then the room.
use mathlib.Core.Path.{◌≡◌, sym}
use borrow.Author.Rules.{rules}
use Rattle.std.specs.Prelude.{Err}
use Rattle.lists.specs.Places.{element_at}
use Rattle.refusal.specs.Numbers.{number}
use Rattle.refusal.proofs.Laws.{names}
use Rattle.address.specs.Address.{zero_address}
use Rattle.envelope.specs.Refusal.{values_refusal}
use Rattle.envelope.specs.Private.{judged_by}
use Rattle.envelope.proofs.Laws.{valued}
use Rattle.envelope_write.proofs.RefuseLaws.{count-refused, values-by-keys, write-values, write-short, write-fits}
use native.Mathlib.Omega.{arith}
use Rattle.envelope_write.proofs.refusing.frame_write_refusal.Goals as goal

pub returns-then-e-gt-MOST_DESTINATIONS : goal.returns-then-e-gt-MOST_DESTINATIONS
returns-then-e-gt-MOST_DESTINATIONS c = count-refused c.args.e (element_at zero_address c.args.addresses) c.args.n c.args.room c.if-e-gt-MOST_DESTINATIONS.true

pub returns-in_err-judged_by : goal.returns-in_err-judged_by
unfolding judged_by
returns-in_err-judged_by c =
    let a = c.args in
    let fault = c.in_err-judged_by.field-0.0 in
    let judged : number fault.refusal ≡ values_refusal a.e a.n (element_at zero_address a.addresses) =
    values-by-keys a.e (element_at zero_address a.addresses) a.n c.out_of_range-stray.ensures c.keys_of-keys.ensures c.in_err-judged_by.ensures.0 in
    let passed_on : c.from_residual.result ≡ Err fault.refusal = search rules in
    rw passed_on (write-values _ _ _ _ judged (names.none_zero fault.refusal))

pub overflow_add-size-2 : goal.overflow_add-size-2
unfolding judged_by
overflow_add-size-2 c =
    let a = c.args in
    let right = sym (values-by-keys a.e (element_at zero_address a.addresses) a.n c.out_of_range-stray.ensures c.keys_of-keys.ensures (sym c.in_ok-judged_by.ensures.0)) in
    omega (arith, (valued _ _ _ _ right).short)

pub returns-then-room-size : goal.returns-then-room-size
unfolding judged_by
returns-then-room-size c =
    let a = c.args in
    let right = sym (values-by-keys a.e (element_at zero_address a.addresses) a.n c.out_of_range-stray.ensures c.keys_of-keys.ensures (sym c.in_ok-judged_by.ensures.0)) in
    write-short _ _ _ _ right c.if-room-size.true

pub returns : goal.returns
unfolding judged_by
returns c =
    let a = c.args in
    let right = sym (values-by-keys a.e (element_at zero_address a.addresses) a.n c.out_of_range-stray.ensures c.keys_of-keys.ensures (sym c.in_ok-judged_by.ensures.0)) in
    write-fits _ _ _ _ right c.if-room-size.false
