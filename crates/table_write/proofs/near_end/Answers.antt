-- `table_write::near_end` meets its contract: the first end, if it stands there, else the second.
use mathlib.Core.Path.{sym, ap, ◌∙◌}
use Rattle.lists.proofs.Bools.{told-true, told-false}
use Rattle.address.specs.declared.Station.{Station}
use Rattle.address.specs.Address.{same_station}
use Rattle.table_write.proofs.Filling.{near_first, near-second}
use Rattle.table_write.proofs.near_end.Goals as goal

pub returns-then-same_station : goal.returns-then-same_station
returns-then-same_station c =
    let a = c.args in
    near_first a.l a.s (ap (λ (x : Station). same_station x a.s) (sym c.station_of.ensures) ∙ told-true c.same_station.ensures c.if-same_station.true)

pub returns : goal.returns
returns c =
    let a = c.args in
    near-second a.l a.s (ap (λ (x : Station). same_station x a.s) (sym c.station_of.ensures) ∙ told-false c.same_station.ensures c.if-same_station.false)
