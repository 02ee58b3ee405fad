-- `table::entries::out_choice` meets its contract: the entries that the loop sees are the table's own.
use mathlib.Core.Path.{◌≡◌, sym, ◌∙◌}
use lib.ListN.{length, take}
use Rattle.std.proofs.lemmas.List.{length-take-le}
use Rattle.lists.proofs.Places.{any_none, any-more, any-end}
use Rattle.table.proofs.Laws.{qualifies-read, out-read, out_none}
use native.Mathlib.Omega.{arith}
use borrow.Author.Rules.{rules}
use Rattle.table.proofs.entries.out_choice.Goals as goal

pub loop-e-init : goal.loop-e-init
loop-e-init c = any_none _

pub returns-then-qualifies : goal.returns-then-qualifies
returns-then-qualifies c =
    let t = c.args.t in
    let counted : length (take t.count t.entries) ≡ t.count = search (rules, length-take-le) in
    let l = c.loop-e in
    out-read t _ l.e-index c.loop-e-test.true _ _ (omega (arith, counted, c.loop-e-test.true)) l.invariant (sym c.qualifies.ensures ∙ c.if-qualifies.true)

pub loop-e-preserved : goal.loop-e-preserved
loop-e-preserved c =
    let l = c.loop-e in
    any-more _ l.e-index l.invariant (qualifies-read c.args.t _ l.e-index c.loop-e-test.true _ _ ∙ sym c.qualifies.ensures ∙ c.if-qualifies.false)

pub returns : goal.returns
returns c =
    let t = c.args.t in
    let counted : length (take t.count t.entries) ≡ t.count = search (rules, length-take-le) in
    sym (out_none _ _ _ (sym (any-end _ (omega (arith, counted)) c.loop-e.invariant)))
