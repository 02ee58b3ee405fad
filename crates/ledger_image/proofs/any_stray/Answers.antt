-- `ledger_image::any_stray` meets its contract: each place that is looked at is stray or not.
use mathlib.Core.Path.{sym, ◌∙◌}
use Rattle.lists.proofs.Places.{any_none, any-more, any_found}
use Rattle.ledger_image.specs.Ledger.{stray_leg_held}
use Rattle.ledger_image.proofs.any_stray.Goals as goal

pub loop-i-init : goal.loop-i-init
loop-i-init c = any_none _

pub returns-then-stray_leg : goal.returns-then-stray_leg
unfolding stray_leg_held
returns-then-stray_leg c = sym (any_found (stray_leg_held c.args.b.now) c.args.n c.loop-i.i c.loop-i-test.true (sym c.stray_leg.ensures ∙ c.if-stray_leg.true))

pub loop-i-preserved : goal.loop-i-preserved
unfolding stray_leg_held
loop-i-preserved c = any-more (stray_leg_held c.args.b.now) c.loop-i.i c.loop-i.invariant (sym c.stray_leg.ensures ∙ c.if-stray_leg.false)
