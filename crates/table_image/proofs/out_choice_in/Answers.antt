-- `table_image::out_choice_in` meets its contract: the entries that the loop reads are those of the table in the image.
use mathlib.Core.Path.{sym, ◌∙◌}
use native.Mathlib.Omega.{arith}
use Rattle.lists.proofs.Places.{any_none, any-more}
use Rattle.table_image.specs.Table.{entry_held}
use Rattle.table_image.proofs.Laws.{readable}
use Rattle.table_image.proofs.InImage.{qualifies-held, out-held, none-held}
use Rattle.table_image.proofs.out_choice_in.Goals as goal

pub loop-i-init : goal.loop-i-init
loop-i-init c =
    let r = readable _ c.requires.readable in
    (omega (arith, c.requires.counted), r.long, any_none _)

pub returns-then-qualifies : goal.returns-then-qualifies
unfolding entry_held
returns-then-qualifies c =
    let l = c.loop-i in
    out-held c.args.b.now c.requires.readable _ _ l.i (omega (arith, c.requires.counted)) c.entry_in-e.ensures l.invariant.2 (sym c.qualifies.ensures ∙ c.if-qualifies.true)

pub loop-i-preserved : goal.loop-i-preserved
unfolding entry_held
loop-i-preserved c =
    let l = c.loop-i in
    let q = qualifies-held c.args.b.now c.requires.readable _ _ l.i (omega (arith, c.requires.counted)) c.entry_in-e.ensures in
    (l.invariant.0, l.invariant.1, any-more _ l.i l.invariant.2 (q ∙ sym c.qualifies.ensures ∙ c.if-qualifies.false))

pub returns : goal.returns
returns c = none-held _ c.requires.readable _ _ (omega (arith, c.requires.counted)) c.loop-i.invariant.2
