-- `chart_net::ends_for` meets its contract: too many links have no ends here, else each link's stand at its place.
use mathlib.Core.Path.{◌≡◌}
use native.Mathlib.Omega.{arith}
use borrow.Author.Rules.{rules}
use lib.ListN.{length, take}
use Rattle.std.proofs.lemmas.List.{length-take-le}
use Rattle.chart_net.proofs.Kept.{ends-many, ends-none, ends_next, ends-all}
use Rattle.chart_net.proofs.ends_for.Goals as goal

pub returns-then-links-gt-MOST_LINKS : goal.returns-then-links-gt-MOST_LINKS
returns-then-links-gt-MOST_LINKS c = ends-many c.args.links c.args.nodes c.if-links-gt-MOST_LINKS.true

pub loop-i-init : goal.loop-i-init
loop-i-init c = ends-none _ _

pub loop-i-preserved : goal.loop-i-preserved
loop-i-preserved c =
    let l = c.loop-i in
    ends_next c.args.links c.args.nodes l.ends _ l.i c.link_ends.result c.if-links-gt-MOST_LINKS.false c.loop-i-test.true l.invariant c.link_ends.ensures

pub returns : goal.returns
returns c =
    let a = c.args in
    let l = c.loop-i in
    let counted : length (take a.links.count a.links.items) ≡ a.links.count = search (rules, length-take-le) in
    ends-all a.links a.nodes l.ends l.i c.if-links-gt-MOST_LINKS.false (omega (arith, counted)) l.invariant
