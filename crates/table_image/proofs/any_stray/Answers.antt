-- `table_image::any_stray` meets its contract: each place that is looked at is stray or not.
use mathlib.Core.Path.{sym, ◌∙◌}
use Rattle.lists.proofs.Places.{any_none, any-more, any_found}
use Rattle.table_image.specs.Table.{stray_entry_held}
use Rattle.table_image.proofs.any_stray.Goals as goal

pub loop-i-init : goal.loop-i-init
loop-i-init c = any_none _

pub returns-then-stray_entry : goal.returns-then-stray_entry
unfolding stray_entry_held
returns-then-stray_entry c = sym (any_found (stray_entry_held c.args.b.now) c.args.n c.loop-i.i c.loop-i-test.true (sym c.stray_entry.ensures ∙ c.if-stray_entry.true))

pub loop-i-preserved : goal.loop-i-preserved
unfolding stray_entry_held
loop-i-preserved c = any-more (stray_entry_held c.args.b.now) c.loop-i.i c.loop-i.invariant (sym c.stray_entry.ensures ∙ c.if-stray_entry.false)
