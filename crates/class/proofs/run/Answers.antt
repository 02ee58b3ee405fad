-- `class::run` meets its contract: a step that comes to a node lengthens the way.
use mathlib.Core.Path.{ap}
use Rattle.class.specs.Calls.{tables_in, passing}
use Rattle.class.proofs.Passing.{goes_first, goes_over, goes-nowhere, gone}
use Rattle.class.proofs.run.Goals as goal
use Rattle.class.proofs.run.Goals.{then-m, else-m}

pub loop-m-init : goal.loop-m-init
loop-m-init c =
    let a = c.args in
    let ts = tables_in a.tables.now in
    let g = c.requires in
    goes_first a.c ts a.d a.at g.here g.chart.few_nodes c.begun-m.ensures

pub loop-m-preserved : goal.loop-m-preserved
loop-m-preserved c =
    let l = c.loop-m in
    let a = c.args in
    let ts = tables_in a.tables.now in
    let ok = c.requires.chart in
    let on = c.if-m in
    let t = c.loop-m-test.true in
    let e = c.step_on-m.ensures in
    elim on.branch [
      | then-m w ↦ goes_over a.c ts a.d a.at ok l.m l.way l.count l.left l.invariant t _ e on.way' on.count w.if-m.true w.way'-is w.count-is
      | else-m w ↦ goes-nowhere a.c ts a.d a.at ok l.m l.way l.count l.left l.invariant t _ e on.way' on.count w.if-m.false w.way'-is w.count-is
    ]

pub returns : goal.returns
returns c =
    let l = c.loop-m in
    let a = c.args in
    let ts = tables_in a.tables.now in
    ap passing (gone a.c ts a.d a.at c.requires.chart l.m l.way l.count l.left l.invariant c.loop-m-test.false)
