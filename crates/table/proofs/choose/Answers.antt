-- `table::choose` meets its contract: the tests on the way say which case of `choose_of` holds.
use mathlib.Core.Path.{sym, ◌∙◌}
use Rattle.std.specs.Prelude.{Err}
use Rattle.lists.proofs.Bools.{told-false, told-true}
use Rattle.refusal.specs.declared.Refusal.TheVariants.{BadTable, BadDestination}
use Rattle.table.proofs.Laws.{call-told, chosen-50, chosen-51, chosen-tested, choose-told}
use Rattle.table.proofs.choose.Goals as goal

pub returns-then-not-table_in_range : goal.returns-then-not-table_in_range
returns-then-not-table_in_range c =
    let w = choose-told c.args.table c.args.destination c.args.arrival (Err BadTable) (sym (chosen-50 _ _ _ (told-false c.table_in_range.ensures c.if-not-table_in_range.true))) in
    record { value = w.0; refusal = w.1.0; local = w.1.1.0; port = w.1.1.1.0; number = w.1.1.1.1 }

pub returns-then-not-in_range-arrival : goal.returns-then-not-in_range-arrival
returns-then-not-in_range-arrival c =
    let call = call-told c.args.destination c.args.arrival c.in_range.ensures in
    let w = choose-told c.args.table c.args.destination c.args.arrival (Err BadDestination) (sym (chosen-51 _ _ _ (told-true c.table_in_range.ensures c.if-not-table_in_range.false) (told-false call c.if-not-in_range-arrival.true))) in
    record { value = w.0; refusal = w.1.0; local = w.1.1.0; port = w.1.1.1.0; number = w.1.1.1.1 }

pub returns : goal.returns
returns c =
    let call = call-told c.args.destination c.args.arrival c.in_range.ensures in
    let table = told-true c.table_in_range.ensures c.if-not-table_in_range.false in
    let w = choose-told c.args.table c.args.destination c.args.arrival c.choice_for.result (c.choice_for.ensures.value ∙ sym (chosen-tested _ _ _ table (told-true call c.if-not-in_range-arrival.false))) in
    record { value = w.0; refusal = w.1.0; local = w.1.1.0; port = w.1.1.1.0; number = w.1.1.1.1 }
