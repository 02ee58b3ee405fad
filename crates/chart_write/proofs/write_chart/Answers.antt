-- `chart_write::write_chart` meets its contract: a refusal leaves the buffer, else the chart's bytes are stored from its start on.
use Prim.Native.Nat.{◌<◌, ◌≤◌}
use mathlib.Core.Path.{◌≡◌, sym, ap, ◌∙◌}
use native.Mathlib.Omega.{arith}
use borrow.Author.Rules.{rules}
use lib.ListN.{length}
use Rattle.std.specs.Prelude.{Err}
use Rattle.buffer.specs.Writing.{Wrote, written}
use Rattle.refusal.proofs.Laws.{names}
use Rattle.refusal.proofs.Passed.{passed-answer}
use Rattle.chart_write.specs.Writing.{chart_bytes}
use Rattle.chart_write.proofs.Laws.{write-refused, write-short, refusal-none, write-told, answer-refused, answer-short, write-wrote}
use Rattle.chart_write.proofs.write_chart.Goals as goal

pub returns-in_err-chart_refusal : goal.returns-in_err-chart_refusal
returns-in_err-chart_refusal c =
    let a = c.args in
    let r = c.in_err-chart_refusal in
    let e = write-refused a.c (length a.out.now) r.ensures (names.none_zero _) in
    let t = answer-refused a.c a.out.now r.ensures (names.none_zero r.field-0.0) in
    let passed_on : c.from_residual.result ≡ Err r.field-0.0 = search rules in
    let o = ap written passed_on ∙ t.answer in
    let w = write-told a.c a.out.now _ o in
    record { value = passed-answer _ _ c.from_residual.ensures.1 e _; buffer = t.buffer; answer = o; refusal = w.0; count = w.1 }

pub returns-then-out-size : goal.returns-then-out-size
returns-then-out-size c =
    let a = c.args in
    let z = sym c.in_ok-chart_refusal.ensures in
    let few : length a.out.now < length (chart_bytes a.c) = omega (arith, c.chart_size-size.ensures) in
    let t = answer-short a.c a.out.now z few in
    let w = write-told a.c a.out.now _ t.answer in
    record { value = write-short a.c (length a.out.now) z few; buffer = t.buffer; answer = t.answer; refusal = w.0; count = w.1 }

pub returns : goal.returns
returns c =
    let a = c.args in
    let z = sym c.in_ok-chart_refusal.ensures in
    let room : length (chart_bytes a.c) ≤ length a.out.now = omega (arith, c.chart_size-size.ensures) in
    let t = write-wrote a.c a.out.now z room in
    let o = ap Wrote c.chart_size-size.ensures ∙ t.answer in
    let w = write-told a.c a.out.now _ o in
    record {
      value = (refusal-none a.c (length a.out.now) z room, c.chart_size-size.ensures);
      buffer = c.put_chart.ensures ∙ t.buffer;
      answer = o;
      refusal = w.0;
      count = w.1;
    }
