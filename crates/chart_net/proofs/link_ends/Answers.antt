-- `chart_net::link_ends` meets its contract: the place of each end's station.
use mathlib.Core.Path.{◌≡◌, ap, ◌∙◌}
use mathlib.Core.List.{[], ◌∷◌}
use Rattle.address.specs.Address.{station_of}
use Rattle.chart_net.specs.Private.{station_place_for, end_places}
use Rattle.chart_net.proofs.link_ends.Goals as goal

pub returns : goal.returns
unfolding end_places
returns c =
    let a = c.args in
    let p : c.place_by-p.result ≡ station_place_for a.nodes (station_of a.l.a) = c.place_by-p.ensures ∙ ap (station_place_for a.nodes) c.station_of.ensures in
    let q : c.place_by-q.result ≡ station_place_for a.nodes (station_of a.l.b) = c.place_by-q.ensures ∙ ap (station_place_for a.nodes) c.station_of-2.ensures in
    λ i. p i ∷ q i ∷ []
