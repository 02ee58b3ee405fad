-- `table_write::write_table` meets its contract: the chart's number, else the table of a chart that is right.
use mathlib.Core.Path.{◌≡◌, sym, ap, ◌∙◌}
use Rattle.std.specs.Prelude.{Result, Ok, Err}
use Rattle.std.specs.Result.{IsErrAnd}
use Rattle.refusal.specs.declared.Refusal.{Refusal}
use Rattle.refusal.specs.Numbers.{number, Answers}
use Rattle.refusal.proofs.Laws.{names}
use Rattle.refusal.proofs.Passed.{passed-answer}
use Rattle.table.specs.declared.Table.{Table}
use Rattle.table_write.specs.Writing.{TableWritten, no_table, table_written}
use Rattle.table_write.proofs.Known.{answer-refused, written-refused, written_known}
use Rattle.table_write.proofs.write_table.Goals as goal

-- what a `?` passes on
passed-on : (x : Result Table Refusal) (r : Refusal) → IsErrAnd x (λ s. s ≡ r) → table_written x ≡ record { refusal = number r; table = no_table }
unfolding no_table
passed-on (Ok t) r h = absurd h
passed-on (Err s) r h = ap (λ (y : Refusal). record { refusal = number y; table = no_table }) h

pub returns-in_err-chart_refusal : goal.returns-in_err-chart_refusal
returns-in_err-chart_refusal c =
    let a = c.args in
    let h = c.in_err-chart_refusal.ensures in
    record {
      value = passed-answer _ _ c.from_residual.ensures.1 (written-refused a.c a.s h (names.none_zero _)) _;
      answer = passed-on _ _ c.from_residual.ensures.1 ∙ answer-refused a.c a.s h (names.none_zero _);
    }

-- the same answer
answered : (r : Result Table Refusal) {w v : TableWritten} → w ≡ v → Answers r w.refusal w.table → Answers r v.refusal v.table
answered r e h = rw e at h

pub returns : goal.returns
returns c =
    let a = c.args in
    let e = written_known a.c a.s (sym c.in_ok-chart_refusal.ensures) in
    let w = c.write_known.ensures in
    record { value = answered c.write_known.result e w.value; answer = w.answer ∙ e }
