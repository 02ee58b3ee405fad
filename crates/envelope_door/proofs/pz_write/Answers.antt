-- `envelope_door::pz_write` meets its contract: the refusals of the image come first, and then the writer's own answer.
use mathlib.Core.Path.{sym, ◌∙◌}
use native.Mathlib.Omega.{arith}
use Rattle.refusal.proofs.Laws.{names}
use Rattle.lists.proofs.Refusals.{taken, refused}
use Rattle.envelope_write.proofs.Laws.{written-short}
use Rattle.envelope_door.proofs.Writing.{write-image-short, write-stray, write_done}
use Rattle.envelope_door.proofs.pz_write.Goals as goal

pub returns-then-image-lt-ENVELOPE_SIZE : goal.returns-then-image-lt-ENVELOPE_SIZE
returns-then-image-lt-ENVELOPE_SIZE c = write-image-short c.args.image.now c.args.contents.now c.args.frame.now c.if-image-lt-ENVELOPE_SIZE.true

pub returns-then-image-gt1 : goal.returns-then-image-gt1
returns-then-image-gt1 c = write-stray c.args.image.now c.args.contents.now c.args.frame.now c.if-image-lt-ENVELOPE_SIZE.false c.if-image-gt1.true (c.number.ensures ∙ c.stray_ack.ensures ∙ rw c.fields_in-e.ensures)

pub overflow_cast-written : goal.overflow_cast-written
overflow_cast-written c =
    let short = written-short _ _ _ _ c.in-Ok.n c.in-Ok.ensures.value in
    record { fits = omega arith }

pub returns-in-Err : goal.returns-in-Err
returns-in-Err c =
    let a = c.args in
    let v = rw c.fields_in-e.ensures at c.in-Err.ensures in
    let refusal = c.number-in-Err.ensures ∙ v.value in
    write_done a.image.now a.contents.now a.frame.now c.if-image-lt-ENVELOPE_SIZE.false c.if-image-gt1.false c.addresses_in-addresses.result c.addresses_in-addresses.ensures
    refusal (sym (refused _ 0 _ (λ z. names.none_zero c.in-Err.refusal (v.value ∙ z)))) v.buffer

pub returns-in-Ok : goal.returns-in-Ok
returns-in-Ok c =
    let a = c.args in
    let v = rw c.fields_in-e.ensures at c.in-Ok.ensures in
    write_done a.image.now a.contents.now a.frame.now c.if-image-lt-ENVELOPE_SIZE.false c.if-image-gt1.false c.addresses_in-addresses.result c.addresses_in-addresses.ensures
    (sym v.value.0) (v.value.1 ∙ sym (taken _ 0 v.value.0)) v.buffer
