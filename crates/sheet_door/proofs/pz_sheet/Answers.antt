-- `sheet_door::pz_sheet` meets its contract: the writer's own answer is what C gets, and no sheet is so long that its size would not fit 32 bits.
use mathlib.Core.Path.{sym, ◌∙◌}
use native.Mathlib.Omega.{arith}
use Rattle.lists.proofs.Refusals.{taken, refused}
use Rattle.refusal.proofs.Laws.{names}
use Rattle.sheet.proofs.Promises.{wrote-short}
use Rattle.sheet_door.proofs.pz_sheet.Goals as goal

pub overflow_cast-written : goal.overflow_cast-written
overflow_cast-written c =
    let s = wrote-short c.args.chart.now (λ i. omega (arith, c.type_inv.chart i)) _ c.in-Ok.n c.in-Ok.ensures.value in
    record { fits = omega arith }

pub returns-in-Ok : goal.returns-in-Ok
returns-in-Ok c =
    let h = c.in-Ok.ensures in
    (sym h.value.0, h.value.1 ∙ sym (taken _ _ h.value.0), h.buffer)

pub returns-in-Err : goal.returns-in-Err
returns-in-Err c =
    let h = c.in-Err.ensures in
    let e = c.number.ensures ∙ h.value in
    (e, sym (refused _ _ _ (λ z. names.none_zero c.in-Err.refusal (h.value ∙ z))), h.buffer)
