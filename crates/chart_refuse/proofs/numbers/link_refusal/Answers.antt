-- `chart_refuse::numbers::link_refusal` meets its contract: the direction decides, then the ends.
use mathlib.Core.Path.{sym, ap, ◌∙◌}
use mathlib.Core.Bool.{not}
use Rattle.lists.proofs.Chains.{stops, passes}
use Rattle.chart_refuse.proofs.ByKeys.{direction-first}
use Rattle.chart_refuse.proofs.numbers.link_refusal.Goals as goal

pub returns-then-not-direction_in_range : goal.returns-then-not-direction_in_range
returns-then-not-direction_in_range c =
    let a = c.args in
    stops 24 _ (ap not (sym c.direction_in_range.ensures) ∙ (ap not c.if-not-direction_in_range.true)) ∙ sym (direction-first a.late a.form _ a.n _ _ a.m a.l)

pub returns : goal.returns
returns c =
    let a = c.args in
    passes 24 (ap not (sym c.direction_in_range.ensures) ∙ (ap not c.if-not-direction_in_range.false)) c.ends_refusal.ensures ∙ sym (direction-first a.late a.form _ a.n _ _ a.m a.l)
