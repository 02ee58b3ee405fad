-- Each link before the one that is looked at goes both ways.
use mathlib.Core.Path.{◌≡◌}
use mathlib.Core.Bool.{false}
use Rattle.lists.specs.Places.{any_below}
use Rattle.chart_form.specs.Moving.{one_way_at}
use Rattle.chart_form.proofs.one_way.Given as goal

abbrev pub invariant-loop-l : goal.invariant-loop-l
invariant-loop-l l = any_below (one_way_at l.fn.links) l.l-index ≡ false
