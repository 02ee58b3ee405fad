-- `chart_refuse::station_keys` meets its contract: one more key is the key of the node at its place.
use Prim.Native.Nat.{ℕ}
use mathlib.Core.Path.{◌≡◌, subst, ◌∙◌}
use native.Mathlib.Omega.{arith}
use lib.ListN.{length, length-set}
use borrow.Author.Rules.{rules}
use Rattle.chart.specs.declared.ChartNode.{ChartNode}
use Rattle.chart.specs.Values.{node_at}
use Rattle.chart.proofs.Laws.{node-read}
use Rattle.chart_refuse.specs.Private.{StationKeyed}
use Rattle.chart_refuse.proofs.ByKeys.{keyed-more}
use Rattle.chart_refuse.proofs.keys.station_keys.Goals as goal

pub loop-i-preserved : goal.loop-i-preserved
loop-i-preserved c =
    let l = c.loop-i in
    let nodes = c.args.nodes in
    let whole : length nodes.items ≡ 16 = search rules in
    let e = subst (λ (n : ChartNode). StationKeyed n.station c.station_key.result) (node-read nodes _ l.i (omega (arith, whole))) c.station_key.ensures in
    record {
      long = length-set l.keys l.i c.station_key.result ∙ l.invariant.long;
      keyed = keyed-more (λ (j k : ℕ). StationKeyed (node_at nodes j).station k) l.keys l.i _ (omega (arith, whole)) e l.invariant.keyed;
    }

pub returns : goal.returns
returns c = record { long = c.loop-i.invariant.long; keyed = λ i h. c.loop-i.invariant.keyed i (omega arith) }
