-- `class::links::away_end` meets its contract: the second end, if the first stands there, else the first.
use mathlib.Core.Path.{sym, ap, ◌∙◌}
use Rattle.lists.proofs.Bools.{told-true, told-false}
use Rattle.address.specs.declared.Station.{Station}
use Rattle.address.specs.Address.{same_station}
use Rattle.class.proofs.Leaving.{away-first, away-second}
use Rattle.class.proofs.links.away_end.Goals as goal

pub returns-then-same_station : goal.returns-then-same_station
returns-then-same_station c =
    let a = c.args in
    let near = ap (λ (x : Station). same_station x a.s) (sym c.station_of.ensures) in
    away-second a.l a.s (near ∙ told-true c.same_station.ensures c.if-same_station.true)

pub returns : goal.returns
returns c =
    let a = c.args in
    let near = ap (λ (x : Station). same_station x a.s) (sym c.station_of.ensures) in
    away-first a.l a.s (near ∙ told-false c.same_station.ensures c.if-same_station.false)
