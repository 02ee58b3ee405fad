-- `table::entries::qualifies` meets its contract: its tests are the definition's.
use mathlib.Core.Path.{ap}
use mathlib.Core.Bool.{Bool, not, ◌&&◌}
use lib.Dec.{eqb}
use Rattle.table.specs.Table.{qualifies}
use Rattle.table.proofs.entries.qualifies.Goals as goal

pub returns : goal.returns
unfolding qualifies
returns c =
    let a = c.args in
    ap (λ (b : Bool). a.e.on && not (eqb a.e.port.0 a.arrival.0) && b) c.covers.ensures
