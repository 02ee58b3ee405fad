-- `table_write::entry_over` meets its contract: the port is that of the near end.
use mathlib.Core.Bool.{true}
use Rattle.table.specs.declared.Target.TheVariants.{One}
use Rattle.table_write.specs.Writing.{entry_over}
use Rattle.table_write.proofs.entry_over.Goals as goal

pub returns : goal.returns
unfolding entry_over
returns c =
    let a = c.args in
    λ i. record { target = One a.to.brigade a.to.node; port = (c.near_end.ensures i).port; on = true }
