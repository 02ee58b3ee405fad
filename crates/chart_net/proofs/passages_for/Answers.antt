-- `chart_net::passages_for` meets its contract: too many links have no ways here, else each link's stands at its place.
use mathlib.Core.Path.{◌≡◌}
use native.Mathlib.Omega.{arith}
use borrow.Author.Rules.{rules}
use lib.ListN.{length, take}
use Rattle.std.proofs.lemmas.List.{length-take-le}
use Rattle.chart_net.proofs.Kept.{ways-many, ways-none, ways_next, ways-all}
use Rattle.chart_net.proofs.passages_for.Goals as goal

pub returns-then-links-gt-MOST_LINKS : goal.returns-then-links-gt-MOST_LINKS
returns-then-links-gt-MOST_LINKS c = ways-many _ c.if-links-gt-MOST_LINKS.true

pub loop-i-init : goal.loop-i-init
loop-i-init c = ways-none _

pub loop-i-preserved : goal.loop-i-preserved
loop-i-preserved c =
    let l = c.loop-i in
    ways_next c.args.links l.ways _ l.i c.passage_of.result c.if-links-gt-MOST_LINKS.false c.loop-i-test.true l.invariant c.passage_of.ensures

pub returns : goal.returns
returns c =
    let links = c.args.links in
    let l = c.loop-i in
    let counted : length (take links.count links.items) ≡ links.count = search (rules, length-take-le) in
    ways-all links l.ways l.i c.if-links-gt-MOST_LINKS.false (omega (arith, counted)) l.invariant
