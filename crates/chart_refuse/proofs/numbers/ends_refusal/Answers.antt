-- `chart_refuse::numbers::ends_refusal` meets its contract: the tests on the way say which number.
use Prim.Native.Nat.{ℕ}
use mathlib.Core.Path.{◌≡◌, refl, sym, ap, ap₂, ◌∙◌}
use mathlib.Core.Bool.{Bool, not, ◌&&◌, ◌||◌}
use mathlib.Core.List.{List}
use borrow.Author.Tests.{lt-ltb, le-ltb, le-leb, lt-leb}
use Rattle.lists.proofs.Chains.{stops, passes}
use Rattle.address.specs.declared.Station.{Station}
use Rattle.address.specs.declared.Address.{Address}
use Rattle.address.specs.Address.{station_of, same_station}
use Rattle.chart.specs.Values.{plain, end_in_range, direction_in_range, link_in_range}
use Rattle.chart.specs.Refusals.{link_refusal_by}
use Rattle.chart_refuse.specs.Private.{plain_link, known, ends_refusal_by_keys, link_refusal_by_keys}
use Rattle.chart_refuse.proofs.ByKeys.{ends-alone}
use Rattle.chart_refuse.proofs.numbers.ends_refusal.Goals as goal

-- what the tests say of the definition's own
both-ranged : (a b : Address) {x y k : Bool} → x ≡ end_in_range a → y ≡ end_in_range b → (x && y) ≡ k → not (link_in_range plain (plain_link a b)) ≡ not k
unfolding link_in_range direction_in_range
both-ranged a b p q e = ap not (ends-alone (end_in_range a) (end_in_range b) ∙ sym (ap₂ ◌&&◌ p q) ∙ e)

both-written : (keys : List ℕ) (n : ℕ) (a b : Address) {s t : Station} {x k : Bool} → x ≡ (known keys n s && known keys n t) → s ≡ station_of a → t ≡ station_of b → x ≡ k
    → not (known keys n (station_of a) && known keys n (station_of b)) ≡ not k
both-written keys n a b o p q e = ap not (sym (o ∙ ap₂ (λ (x y : Station). known keys n x && known keys n y) p q) ∙ e)

pub returns-then-not-end_in_range : goal.returns-then-not-end_in_range
unfolding ends_refusal_by_keys link_refusal_by_keys link_refusal_by link_in_range direction_in_range
returns-then-not-end_in_range c =
    stops 24 _ (both-ranged c.args.a c.args.b c.end_in_range.ensures c.end_in_range-2.ensures c.if-not-end_in_range.true)

pub returns-then-late : goal.returns-then-late
unfolding ends_refusal_by_keys link_refusal_by_keys link_refusal_by link_in_range direction_in_range
returns-then-late c =
    passes 24 (both-ranged c.args.a c.args.b c.end_in_range.ensures c.end_in_range-2.ensures c.if-not-end_in_range.false)
    (stops 25 _ c.if-late.true)

pub returns-then-n : goal.returns-then-n
unfolding ends_refusal_by_keys link_refusal_by_keys link_refusal_by link_in_range direction_in_range
returns-then-n c =
    passes 24 (both-ranged c.args.a c.args.b c.end_in_range.ensures c.end_in_range-2.ensures c.if-not-end_in_range.false)
    (passes 25 c.if-late.false
    (stops 26 _ (lt-ltb _ _ c.if-n.true)))

pub returns-then-m : goal.returns-then-m
unfolding ends_refusal_by_keys link_refusal_by_keys link_refusal_by link_in_range direction_in_range
returns-then-m c =
    passes 24 (both-ranged c.args.a c.args.b c.end_in_range.ensures c.end_in_range-2.ensures c.if-not-end_in_range.false)
    (passes 25 c.if-late.false
    (passes 26 (le-ltb _ _ c.if-n.false)
    (stops 26 _ (le-leb _ _ c.if-m.true))))

pub returns-then-not-both_known : goal.returns-then-not-both_known
unfolding ends_refusal_by_keys link_refusal_by_keys link_refusal_by link_in_range direction_in_range
returns-then-not-both_known c =
    passes 24 (both-ranged c.args.a c.args.b c.end_in_range.ensures c.end_in_range-2.ensures c.if-not-end_in_range.false)
    (passes 25 c.if-late.false
    (passes 26 (le-ltb _ _ c.if-n.false)
    (passes 26 (lt-leb _ _ c.if-m.false)
    (stops 28 _ (both-written c.args.keys.now c.args.n c.args.a c.args.b c.both_known.ensures c.station_of-s.ensures c.station_of-t.ensures c.if-not-both_known.true)))))

pub returns-then-same_station : goal.returns-then-same_station
unfolding ends_refusal_by_keys link_refusal_by_keys link_refusal_by link_in_range direction_in_range
returns-then-same_station c =
    passes 24 (both-ranged c.args.a c.args.b c.end_in_range.ensures c.end_in_range-2.ensures c.if-not-end_in_range.false)
    (passes 25 c.if-late.false
    (passes 26 (le-ltb _ _ c.if-n.false)
    (passes 26 (lt-leb _ _ c.if-m.false)
    (passes 28 (both-written c.args.keys.now c.args.n c.args.a c.args.b c.both_known.ensures c.station_of-s.ensures c.station_of-t.ensures c.if-not-both_known.false)
    (stops 29 _ (sym (c.same_station.ensures ∙ ap₂ same_station c.station_of-s.ensures c.station_of-t.ensures) ∙ c.if-same_station.true))))))

pub returns-then-is_used : goal.returns-then-is_used
unfolding ends_refusal_by_keys link_refusal_by_keys link_refusal_by link_in_range direction_in_range
returns-then-is_used c =
    passes 24 (both-ranged c.args.a c.args.b c.end_in_range.ensures c.end_in_range-2.ensures c.if-not-end_in_range.false)
    (passes 25 c.if-late.false
    (passes 26 (le-ltb _ _ c.if-n.false)
    (passes 26 (lt-leb _ _ c.if-m.false)
    (passes 28 (both-written c.args.keys.now c.args.n c.args.a c.args.b c.both_known.ensures c.station_of-s.ensures c.station_of-t.ensures c.if-not-both_known.false)
    (passes 29 (sym (c.same_station.ensures ∙ ap₂ same_station c.station_of-s.ensures c.station_of-t.ensures) ∙ c.if-same_station.false)
    (stops 30 _ (sym (ap₂ ◌||◌ c.is_used.ensures c.is_used-2.ensures) ∙ c.if-is_used.true)))))))

pub returns : goal.returns
unfolding ends_refusal_by_keys link_refusal_by_keys link_refusal_by link_in_range direction_in_range
returns c =
    passes 24 (both-ranged c.args.a c.args.b c.end_in_range.ensures c.end_in_range-2.ensures c.if-not-end_in_range.false)
    (passes 25 c.if-late.false
    (passes 26 (le-ltb _ _ c.if-n.false)
    (passes 26 (lt-leb _ _ c.if-m.false)
    (passes 28 (both-written c.args.keys.now c.args.n c.args.a c.args.b c.both_known.ensures c.station_of-s.ensures c.station_of-t.ensures c.if-not-both_known.false)
    (passes 29 (sym (c.same_station.ensures ∙ ap₂ same_station c.station_of-s.ensures c.station_of-t.ensures) ∙ c.if-same_station.false)
    (passes 30 (sym (ap₂ ◌||◌ c.is_used.ensures c.is_used-2.ensures) ∙ c.if-is_used.false) refl))))))
