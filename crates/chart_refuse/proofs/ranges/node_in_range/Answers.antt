-- `chart_refuse::ranges::node_in_range` meets its contract: its station, and its label.
use mathlib.Core.Path.{◌≡◌, ap₂, ◌∙◌}
use mathlib.Core.Bool.{Bool, not, ◌&&◌}
use native.Mathlib.Omega.{arith}
use lib.ListN.{length}
use borrow.Author.Rules.{rules}
use Rattle.chart.specs.Values.{node_in_range}
use Rattle.chart_refuse.proofs.Laws.{stray-first}
use Rattle.chart_refuse.proofs.ranges.node_in_range.Goals as goal

pub returns : goal.returns
unfolding node_in_range
returns c =
    let n = c.args.n in
    let whole : length n.label ≡ 24 = search rules in
    ap₂ (λ (a b : Bool). a && not b) c.station_in_range.ensures (c.any_stray.ensures ∙ stray-first n.label n.length (omega (arith, whole)))
