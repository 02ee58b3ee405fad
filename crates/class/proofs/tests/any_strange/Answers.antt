-- `class::tests::any_strange` meets its contract: the nodes that the loop sees are those that count.
use Prim.Native.Nat.{ℕ, ◌<◌}
use mathlib.Core.Path.{◌≡◌, sym, ap, ap₂, ◌∙◌}
use mathlib.Core.Bool.{Bool, not}
use mathlib.Core.List.{List}
use native.Mathlib.Omega.{arith}
use borrow.Author.Rules.{rules}
use borrow.Author.Tests.{not-false}
use lib.ListN.{length, get_or, take, length-take}
use Rattle.std.proofs.lemmas.List.{get_or-take}
use Rattle.lists.proofs.Places.{any_none, any-more, any-end, any_found, any_false}
use Rattle.address.specs.declared.Station.{Station}
use Rattle.address.specs.Address.{same_station}
use Rattle.table.specs.Table.{own_station}
use Rattle.chart.specs.declared.ChartNode.{ChartNode}
use Rattle.chart.specs.declared.Nodes.{Nodes}
use Rattle.chart.proofs.Laws.{node-read}
use Rattle.class.specs.Class.{stray_table, strange_table}
use Rattle.class.specs.Calls.{tables_in}
use Rattle.class.proofs.tests.any_strange.Goals as goal

-- a node that a turn looks at
below : (ns : Nodes) (i : ℕ) → i < length (take ns.count ns.items) → i < ns.count
below ns i h = omega (arith, length-take ns.count ns.items)

-- whether its table is another node's, as the code finds it
told : (ns : Nodes) (tables : List ℕ) (z : ChartNode) (i : ℕ) {own : Station} {b : Bool} → i < length (take ns.count ns.items)
    → own ≡ own_station (tables_in tables i) → b ≡ same_station own (get_or (take ns.count ns.items) i z).station → strange_table ns (tables_in tables) i ≡ not b
unfolding strange_table
told ns tables z i h o e =
    let within : i < length ns.items = omega (arith, length-take ns.count ns.items) in
    let node = get_or-take ns.count ns.items i z (below ns i h) ∙ node-read ns z i within in
    ap not (sym (e ∙ ap₂ same_station o (ap (λ (n : ChartNode). n.station) node)))

pub loop-i-init : goal.loop-i-init
loop-i-init c = any_none _

pub own_held-requires : goal.own_held-requires
unfolding stray_table
own_held-requires c =
    let a = c.args in
    let l = below a.nodes c.loop-i.i c.loop-i-test.true in
    record { within = omega (arith, c.requires.counted); ranged = not-false _ (any_false (stray_table (tables_in a.tables.now)) a.nodes.count c.loop-i.i c.requires.ranged l) }

pub returns-then-not-same_station : goal.returns-then-not-same_station
returns-then-not-same_station c =
    let a = c.args in
    let l = c.loop-i in
    let t = told a.nodes a.tables.now _ l.i c.loop-i-test.true c.own_held.ensures c.same_station.ensures in
    sym (any_found (strange_table a.nodes (tables_in a.tables.now)) a.nodes.count l.i (below a.nodes l.i c.loop-i-test.true) (t ∙ ap not c.if-not-same_station.true))

pub loop-i-preserved : goal.loop-i-preserved
loop-i-preserved c =
    let a = c.args in
    let l = c.loop-i in
    let t = told a.nodes a.tables.now _ l.i c.loop-i-test.true c.own_held.ensures c.same_station.ensures in
    any-more (strange_table a.nodes (tables_in a.tables.now)) l.i l.invariant (t ∙ ap not c.if-not-same_station.false)

pub returns : goal.returns
returns c =
    let ns = c.args.nodes in
    let whole : length ns.items ≡ 16 = search rules in
    any-end _ (omega (arith, whole, c.requires.counted, length-take ns.count ns.items)) c.loop-i.invariant
