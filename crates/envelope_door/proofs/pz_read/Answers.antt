-- `envelope_door::pz_read` meets its contract: a refusal leaves the image; else the envelope is put into it.
use mathlib.Core.Path.{◌∙◌}
use native.Mathlib.Omega.{arith}
use Rattle.envelope.proofs.Laws.{accepted, part-from}
use Rattle.envelope_read.proofs.Laws.{opened-answer, refused-answer}
use Rattle.envelope_read.proofs.Places.{places-near}
use Rattle.buffer.specs.Bytes.{Bytes}
use Rattle.envelope_door.proofs.Reading.{read-refused, read_short, read_done}
use Rattle.envelope_door.proofs.pz_read.Goals as goal

pub returns-then-image-lt-ENVELOPE_SIZE : goal.returns-then-image-lt-ENVELOPE_SIZE
returns-then-image-lt-ENVELOPE_SIZE c =
    let opened = opened-answer c.args.frame.now _ c.in-Ok.ensures.value in
    read_short c.args.frame.now c.args.image.now opened.none c.if-image-lt-ENVELOPE_SIZE.true

pub slice_bounds-put_envelope-count : goal.slice_bounds-put_envelope-count
slice_bounds-put_envelope-count c =
    let opened = opened-answer c.args.frame.now _ c.in-Ok.ensures.value in
    omega (arith, (accepted _ opened.none).frame.sized)

pub slice_bounds-put_envelope-start : goal.slice_bounds-put_envelope-start
slice_bounds-put_envelope-start c =
    let opened = opened-answer c.args.frame.now _ c.in-Ok.ensures.value in
    omega (arith, (accepted _ opened.none).frame.sized)

pub overflow_cast-place : goal.overflow_cast-place
overflow_cast-place c =
    let bytes : Bytes c.args.frame.now = λ i. omega (arith, c.type_inv.frame i) in
    record { fits = omega (arith, c.in-Err.ensures.value.1, (places-near c.args.frame.now bytes).small) }

pub returns-in-Err : goal.returns-in-Err
returns-in-Err c =
    let f = c.args.frame.now in
    read-refused f c.args.image.now (c.number.ensures ∙ c.in-Err.ensures.value.0) (refused-answer f c.in-Err.fault c.in-Err.ensures.value) c.in-Err.ensures.value.1

pub returns-else-image-lt-ENVELOPE_SIZE : goal.returns-else-image-lt-ENVELOPE_SIZE
returns-else-image-lt-ENVELOPE_SIZE c =
    let opened = opened-answer c.args.frame.now _ c.in-Ok.ensures.value in
    let f = c.args.frame.now in
    let o = opened in
    read_done f c.args.image.now o.none c.if-image-lt-ENVELOPE_SIZE.false o.same (c.put_envelope.ensures ∙ rw (part-from 5 f))
