-- What the trace keeps of a chart, by value (document 01, "Routes and their order"): the two ends of each link as node places, and the way each link is
-- passed. Of a chart with more nodes or links than there may be, nothing.
use Rattle.std.specs.Prelude.{ℕ, ◌+◌, ◌&&◌, cond, List, [], ◌∷◌, replicate, ltb, leb}
use Rattle.lists.specs.Places.{row}
use Rattle.address.specs.declared.Station.{Station}
use Rattle.address.specs.Address.{station_of}
use Rattle.chart.specs.declared.Link.{Link}
use Rattle.chart.specs.declared.Nodes.{Nodes}
use Rattle.chart.specs.declared.Links.{Links}
use Rattle.chart.specs.declared.Chart.{Chart}
use Rattle.chart.specs.Values.{most_nodes, most_links, back_only, link_at}
use Rattle.route_search.specs.Private.{routes_over}
use Rattle.chart_net.specs.declared.Asked.{Asked}
use Rattle.chart_net.specs.Net.{station_place}

-- the place of the node at a station; 16, which is no node's place, where the nodes are too many
unfoldable pub station_place_for : Nodes → Station → ℕ
station_place_for ns s = cond (ltb most_nodes ns.count) most_nodes (station_place ns s)

-- the two ends of a link, as node places
unfoldable pub end_places : Nodes → Link → List ℕ
end_places ns l = station_place_for ns (station_of l.a) ∷ station_place_for ns (station_of l.b) ∷ []

-- 0 a link is off, 1 it is passed both ways, 2 out, 3 back
unfoldable pub passage_of : Link → ℕ
passage_of l = cond (l.on && leb l.direction back_only) (l.direction + 1) 0

-- of the link at a place
unfoldable pub end_places_at : Nodes → Links → ℕ → List ℕ
end_places_at ns ls i = end_places ns (link_at ls i)

unfoldable pub passage_at : Links → ℕ → ℕ
passage_at ls i = passage_of (link_at ls i)

-- in 48 places, the unused ones zero; where the links are too many all are
unfoldable pub ends_for : Nodes → Links → List (List ℕ)
ends_for ns ls = cond (ltb most_links ls.count) (replicate most_links (0 ∷ 0 ∷ [])) (row most_links (0 ∷ 0 ∷ []) (end_places_at ns ls) ls.count)

unfoldable pub passages_for : Links → List ℕ
passages_for ls = cond (ltb most_links ls.count) (replicate most_links 0) (row most_links 0 (passage_at ls) ls.count)

-- the places that the question names
unfoldable pub asked_of : Chart → Asked
asked_of c = record { from = station_place_for c.nodes c.from; to = station_place_for c.nodes c.to }

-- the routes over these arrays between two stations, and those that the question asks for
abbrev pub array_routes_between : Chart → Station → Station → List (List ℕ)
array_routes_between c s t =
    routes_over (ends_for c.nodes c.links) (passages_for c.links) c.links.count (station_place_for c.nodes s) (station_place_for c.nodes t)

unfoldable pub array_routes : Chart → List (List ℕ)
array_routes c = array_routes_between c c.from c.to
