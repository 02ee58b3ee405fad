-- `chart_refuse::link_keys` meets its contract: one more key in each row is that of the link at its place.
use Prim.Native.Nat.{ℕ, ◌<◌}
use mathlib.Core.Path.{◌≡◌, subst}
use native.Mathlib.Omega.{arith}
use lib.ListN.{length}
use borrow.Author.Rules.{rules}
use Rattle.std.proofs.lemmas.List.{length-take}
use Rattle.chart.specs.declared.Link.{Link}
use Rattle.chart.specs.Values.{link_at}
use Rattle.chart.proofs.Laws.{link-taken}
use Rattle.chart_refuse.specs.Private.{EndKeyed}
use Rattle.chart_refuse.proofs.ByKeys.{keyed-more}
use Rattle.chart_refuse.proofs.charts.link_keys.Goals as goal

pub loop-i-preserved : goal.loop-i-preserved
unfolding link_at
loop-i-preserved c =
    let l = c.loop-i in
    let links = c.args.links in
    let few : l.i < 48 = omega (arith, length-take links.count links.items) in
    let kept-a : length l.akeys ≡ 48 = search rules in
    let kept-b : length l.bkeys ≡ 48 = search rules in
    let e = link-taken links _ links.count l.i c.loop-i-test.true in
    record {
      a = keyed-more (λ (j k : ℕ). EndKeyed (link_at links j).a k) l.akeys l.i _ (omega (arith, few, kept-a)) (subst (λ (x : Link). EndKeyed x.a c.end_key.result) e c.end_key.ensures) l.invariant.a;
      b = keyed-more (λ (j k : ℕ). EndKeyed (link_at links j).b k) l.bkeys l.i _ (omega (arith, few, kept-b)) (subst (λ (x : Link). EndKeyed x.b c.end_key-in-loop-i.result) e c.end_key-in-loop-i.ensures) l.invariant.b;
    }
