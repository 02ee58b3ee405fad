-- `table::ranges::any_stray` meets its contract: the entries that the loop sees are the table's own.
use mathlib.Core.Path.{◌≡◌, sym, ap, ◌∙◌}
use mathlib.Core.Bool.{not}
use lib.ListN.{length, take}
use Rattle.std.proofs.lemmas.List.{length-take-le}
use Rattle.lists.proofs.Places.{any_none, any-more, any_found}
use Rattle.table.specs.Table.{stray_entry}
use Rattle.table.proofs.Laws.{stray-read}
use native.Mathlib.Omega.{arith}
use borrow.Author.Rules.{rules}
use Rattle.table.proofs.ranges.any_stray.Goals as goal

pub loop-e-init : goal.loop-e-init
loop-e-init c = any_none _

pub returns-then-not-entry_in_range : goal.returns-then-not-entry_in_range
returns-then-not-entry_in_range c =
    let t = c.args.t in
    let counted : length (take t.count t.entries) ≡ t.count = search (rules, length-take-le) in
    let l = c.loop-e in
    sym (any_found (stray_entry t) t.count l.e-index (omega (arith, counted, c.loop-e-test.true)) (stray-read t _ l.e-index c.loop-e-test.true ∙ ap not (sym c.entry_in_range.ensures ∙ c.if-not-entry_in_range.true)))

pub loop-e-preserved : goal.loop-e-preserved
loop-e-preserved c =
    let l = c.loop-e in
    any-more _ l.e-index l.invariant (stray-read c.args.t _ l.e-index c.loop-e-test.true ∙ ap not (sym c.entry_in_range.ensures ∙ c.if-not-entry_in_range.false))
