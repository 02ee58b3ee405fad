-- `class::tables::choice_of` meets its contract: the part of the image from its table on.
use mathlib.Core.Path.{sym, ap, ◌∙◌}
use Rattle.table.specs.declared.Table.{Table}
use Rattle.table.specs.Table.{choose_of}
use Rattle.class.proofs.Held.{held}
use Rattle.class.proofs.tables.choice_of.Goals as goal

pub returns : goal.returns
returns c =
    let a = c.args in
    let table = held a.tables.now c.requires.whole a.at in
    c.choose_in.ensures.value ∙ ap (λ (t : Table). choose_of t a.d a.arrival) (sym table)
