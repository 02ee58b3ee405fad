-- `chart_refuse::ranges::any_stray` meets its contract.
use mathlib.Core.Path.{sym, ap, ◌∙◌}
use mathlib.Core.Bool.{Bool, ◌||◌}
use Rattle.lists.proofs.Places.{any_none, any_next}
use Rattle.chart.specs.Values.{stray_byte}
use Rattle.chart_refuse.proofs.ranges.any_stray.Goals as goal

pub loop-x-init : goal.loop-x-init
loop-x-init c = sym (any_none _)

pub loop-x-preserved : goal.loop-x-preserved
unfolding stray_byte
loop-x-preserved c =
    let p = stray_byte c.args.label.now in
    let i = c.loop-x.x-index in
    ap (λ (b : Bool). b || p i) c.loop-x.invariant ∙ sym (any_next p i)
