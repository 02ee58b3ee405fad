-- `chart_refuse::ranges::direction_in_range` meets its contract: the plain form, then the directed one.
use Rattle.chart.specs.Values.{direction_in_range}
use borrow.Author.Tests.{eq-eqb, ne_eqb}
use Rattle.chart_refuse.proofs.ranges.direction_in_range.Goals as goal

pub returns-then-form-eq-PLAIN : goal.returns-then-form-eq-PLAIN
unfolding direction_in_range
returns-then-form-eq-PLAIN c = rw (eq-eqb _ _ c.if-form-eq-PLAIN.true)

pub returns : goal.returns
unfolding direction_in_range
returns c = rw (ne_eqb _ _ c.if-form-eq-PLAIN.false)
