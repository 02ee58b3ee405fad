-- `class::links::out_by` meets its contract: the first link that leaves by the port, if there is one, leads to its other end.
use Prim.Native.Nat.{ℕ, ◌<◌, ◌≤◌}
use mathlib.Core.Path.{◌≡◌, ap}
use native.Mathlib.Omega.{arith}
use lib.ListN.{length, get_or}
use Rattle.chart.specs.declared.ChartNode.{ChartNode}
use Rattle.chart.specs.declared.Nodes.{Nodes}
use Rattle.chart.specs.Values.{node_at}
use Rattle.chart.proofs.Laws.{node-read, link-read}
use Rattle.class.specs.Private.{coming_of}
use Rattle.class.proofs.Leaving.{out_none, out-told}
use borrow.Author.Rules.{rules}
use Rattle.class.proofs.links.out_by.Goals as goal

-- the station of the node that stands at the place
own : (ns : Nodes) (z : ChartNode) (at : ℕ) → length ns.items ≡ 16 → at < ns.count → ns.count ≤ 16 → (get_or ns.items at z).station ≡ (node_at ns at).station
own ns z at whole h few = ap (λ (n : ChartNode). n.station) (node-read ns z at (omega arith))

pub returns-then-c-i : goal.returns-then-c-i
unfolding coming_of
returns-then-c-i c =
    let a = c.args in
    let ok = c.requires.accepted in
    let nodes : length a.c.nodes.items ≡ 16 = search rules in
    out_none a.c ok a.at a.p _ _ (own a.c.nodes _ a.at nodes c.requires.there ok.few_nodes) c.exit_link-i.ensures c.if-c-i.true

pub returns : goal.returns
unfolding coming_of
returns c =
    let a = c.args in
    let ok = c.requires.accepted in
    let nodes : length a.c.nodes.items ≡ 16 = search rules in
    let links : length a.c.links.items ≡ 48 = search rules in
    let within : c.exit_link-i.result < length a.c.links.items = omega (arith, links, ok.few_links, c.if-c-i.false) in
    let link = link-read a.c.links _ c.exit_link-i.result within in
    let here = own a.c.nodes _ a.at nodes c.requires.there ok.few_nodes in
    out-told a.c ok a.at a.p _ _ here c.exit_link-i.ensures c.if-c-i.false link c.away_end-e.ensures c.station_of.ensures c.place_of.ensures
