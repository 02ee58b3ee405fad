-- `table::ranges::entry_in_range` meets its contract: its tests are the definition's.
use mathlib.Core.Path.{ap}
use mathlib.Core.Bool.{Bool, ◌&&◌}
use lib.Dec.{leb}
use Rattle.table.specs.Table.{entry_in_range}
use Rattle.table.proofs.ranges.entry_in_range.Goals as goal

pub returns : goal.returns
unfolding entry_in_range
returns c =
    let p = c.args.e.port.0 in
    ap (λ (b : Bool). leb 1 p && leb p 63 && b) c.target_in_range.ensures
