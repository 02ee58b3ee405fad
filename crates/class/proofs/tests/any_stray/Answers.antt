-- `class::tests::any_stray` meets its contract: in an image that is too short each table is out of range.
use mathlib.Core.Path.{sym, ap, ◌∙◌}
use mathlib.Core.Bool.{not}
use native.Mathlib.Omega.{arith}
use Rattle.lists.proofs.Places.{any_none, any-more, any-end, any_found}
use Rattle.table.specs.Table.{table_in_range}
use Rattle.class.specs.Class.{stray_table}
use Rattle.class.specs.Calls.{tables_in}
use Rattle.class.proofs.Held.{held, short-stray}
use Rattle.class.proofs.tests.any_stray.Goals as goal

pub returns-then-tables-lt-TABLES_SIZE : goal.returns-then-tables-lt-TABLES_SIZE
returns-then-tables-lt-TABLES_SIZE c = short-stray c.args.tables.now c.if-tables-lt-TABLES_SIZE.true c.args.n

pub loop-i-init : goal.loop-i-init
loop-i-init c = any_none _

pub returns-then-not-image_in_range : goal.returns-then-not-image_in_range
unfolding stray_table
returns-then-not-image_in_range c =
    let a = c.args in
    let l = c.loop-i in
    let t = ap table_in_range (held a.tables.now c.if-tables-lt-TABLES_SIZE.false l.i) ∙ sym c.image_in_range.ensures in
    sym (any_found (stray_table (tables_in a.tables.now)) a.n l.i c.loop-i-test.true (ap not (t ∙ c.if-not-image_in_range.true)))

pub loop-i-preserved : goal.loop-i-preserved
unfolding stray_table
loop-i-preserved c =
    let a = c.args in
    let l = c.loop-i in
    let t = ap table_in_range (held a.tables.now c.if-tables-lt-TABLES_SIZE.false l.i) ∙ sym c.image_in_range.ensures in
    any-more (stray_table (tables_in a.tables.now)) l.i l.invariant (ap not (t ∙ c.if-not-image_in_range.false))

pub returns : goal.returns
returns c = any-end _ (omega arith) c.loop-i.invariant
