-- `table_image::all_in_range` meets its contract: each place that is looked at is in range or not.
use mathlib.Core.Path.{sym, ap, ◌∙◌}
use mathlib.Core.Bool.{not}
use Rattle.lists.proofs.Places.{any_none, any-more, any_found}
use Rattle.table_image.specs.Private.{unranged_held}
use Rattle.table_image.proofs.all_in_range.Goals as goal

pub loop-i-init : goal.loop-i-init
loop-i-init c = any_none _

pub returns-then-not-entry_in_range : goal.returns-then-not-entry_in_range
unfolding unranged_held
returns-then-not-entry_in_range c =
    let unranged = ap not (sym c.entry_in_range.ensures) ∙ ap not c.if-not-entry_in_range.true in
    sym (ap not (any_found (unranged_held c.args.b.now) c.args.n c.loop-i.i c.loop-i-test.true unranged))

pub loop-i-preserved : goal.loop-i-preserved
unfolding unranged_held
loop-i-preserved c =
    let ranged = ap not (sym c.entry_in_range.ensures) ∙ ap not c.if-not-entry_in_range.false in
    any-more (unranged_held c.args.b.now) c.loop-i.i c.loop-i.invariant ranged
