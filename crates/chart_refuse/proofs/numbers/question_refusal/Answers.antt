-- `chart_refuse::numbers::question_refusal` meets its contract: the tests on the way say which number.
use mathlib.Core.Path.{◌≡◌, refl, sym, ap, ap₂, ◌∙◌}
use mathlib.Core.Bool.{Bool, not, ◌&&◌}
use borrow.Author.Tests.{lt-ltb, le-ltb}
use Rattle.lists.proofs.Chains.{stops, passes}
use Rattle.address.specs.declared.Station.{Station}
use Rattle.address.specs.Address.{station_in_range}
use Rattle.chart.specs.Refusals.{question_refusal_by}
use Rattle.chart_refuse.specs.Private.{question_refusal_by_keys}
use Rattle.chart_refuse.proofs.numbers.question_refusal.Goals as goal

-- what the test says of the definition's own
both-ranged : (s t : Station) {x y k : Bool} → x ≡ station_in_range s → y ≡ station_in_range t → (x && y) ≡ k → not (station_in_range s && station_in_range t) ≡ not k
both-ranged s t p q e = ap not (sym (ap₂ ◌&&◌ p q) ∙ e)

pub returns-then-not-station_in_range : goal.returns-then-not-station_in_range
unfolding question_refusal_by_keys question_refusal_by
returns-then-not-station_in_range c =
    stops 24 _ (both-ranged c.args.from c.args.to c.station_in_range.ensures c.station_in_range-2.ensures c.if-not-station_in_range.true)

pub returns-then-late : goal.returns-then-late
unfolding question_refusal_by_keys question_refusal_by
returns-then-late c =
    passes 24 (both-ranged c.args.from c.args.to c.station_in_range.ensures c.station_in_range-2.ensures c.if-not-station_in_range.false) (stops 25 _ c.if-late.true)

pub returns-then-n : goal.returns-then-n
unfolding question_refusal_by_keys question_refusal_by
returns-then-n c =
    passes 24 (both-ranged c.args.from c.args.to c.station_in_range.ensures c.station_in_range-2.ensures c.if-not-station_in_range.false) (passes 25 c.if-late.false (stops 26 _ (lt-ltb _ _ c.if-n.true)))

pub returns-then-not-both_known : goal.returns-then-not-both_known
unfolding question_refusal_by_keys question_refusal_by
returns-then-not-both_known c =
    passes 24 (both-ranged c.args.from c.args.to c.station_in_range.ensures c.station_in_range-2.ensures c.if-not-station_in_range.false) (passes 25 c.if-late.false (passes 26 (le-ltb _ _ c.if-n.false) (stops 28 _ (ap not (sym c.both_known.ensures) ∙ (ap not c.if-not-both_known.true)))))

pub returns : goal.returns
unfolding question_refusal_by_keys question_refusal_by
returns c =
    passes 24 (both-ranged c.args.from c.args.to c.station_in_range.ensures c.station_in_range-2.ensures c.if-not-station_in_range.false) (passes 25 c.if-late.false (passes 26 (le-ltb _ _ c.if-n.false) (passes 28 (ap not (sym c.both_known.ensures) ∙ (ap not c.if-not-both_known.false)) refl)))
