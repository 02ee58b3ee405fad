-- `envelope_write::write_frame` meets its contract: a refusal leaves the buffer, else the frame's bytes are stored from its start on.
use mathlib.Core.Path.{◌≡◌, refl, sym, ap, ◌∙◌}
use borrow.Author.Rules.{rules}
use Rattle.std.specs.Prelude.{Err}
use lib.ListN.{length}
use Rattle.lists.specs.Places.{element_at}
use Rattle.refusal.proofs.Laws.{names}
use Rattle.refusal.proofs.Passed.{passed-answer}
use Rattle.buffer.specs.Writing.{Wrote, written}
use Rattle.address.specs.Address.{zero_address}
use Rattle.envelope_write.proofs.RefuseLaws.{ready}
use Rattle.envelope_write.proofs.Laws.{bytes-stored, write-told, write-refused, write-wrote}
use Rattle.envelope_write.proofs.write_frame.Goals as goal

pub returns-in_err-frame_write_refusal : goal.returns-in_err-frame_write_refusal
returns-in_err-frame_write_refusal c =
    let a = c.args in
    let d = element_at zero_address a.addresses in
    let r = c.in_err-frame_write_refusal in
    let passed_on : c.from_residual.result ≡ Err r.field-0.0 = search rules in
    let t = write-refused a.e d a.contents.now a.out.now r.ensures (names.none_zero r.field-0.0) in
    let o = ap written passed_on ∙ t.answer in
    let w = write-told a.e d a.contents.now a.out.now o in
    record { value = passed-answer _ _ c.from_residual.ensures.1 r.ensures _; buffer = t.buffer; answer = o; refusal = w.0; count = w.1 }

pub put_frame-requires : goal.put_frame-requires
put_frame-requires c = ready _ _ _ _ (sym c.in_ok-frame_write_refusal.ensures)

pub returns : goal.returns
returns c =
    let a = c.args in
    let d = element_at zero_address a.addresses in
    let p = c.in_ok-frame_write_refusal.ensures in
    let r = ready a.e d (length a.contents.now) (length a.out.now) (sym p) in
    let t = write-wrote a.e d a.contents.now a.out.now p refl in
    let o = ap Wrote c.put_frame.ensures.0 ∙ t.answer in
    let w = write-told a.e d a.contents.now a.out.now o in
    record {
      value = (sym p, c.put_frame.ensures.0);
      buffer = c.put_frame.ensures.1 ∙ bytes-stored a.e d a.contents.now a.out.now r.roomy ∙ t.buffer;
      answer = o;
      refusal = w.0;
      count = w.1;
    }
