-- The net of a chart: what its routes go over (document 01, "Routes and their order"; document 02, Five). Nodes and links go by their places.
use Rattle.std.specs.Prelude.{ℕ, Bool, ◌&&◌, ◌||◌, cond, List, eqb, ltb}
use Rattle.std.proofs.Math.Option.{Option, none, some}
use Rattle.lists.specs.Places.{first_below}
use Rattle.address.specs.declared.Station.{Station}
use Rattle.address.specs.Address.{station_of, same_station}
use Rattle.chart.specs.declared.Link.{Link}
use Rattle.chart.specs.declared.Nodes.{Nodes}
use Rattle.chart.specs.declared.Links.{Links}
use Rattle.chart.specs.declared.Chart.{Chart}
use Rattle.chart.specs.Values.{both_ways, out_only, back_only, node_at, link_at, stands_at}
use Rattle.route.specs.Route.{Net}
use Rattle.route.specs.All.{all_routes}

-- the place of the node at this station: its brigade and node number are compared, its label is not looked at
unfoldable pub station_place : Nodes → Station → ℕ
station_place ns s = first_below (stands_at ns s) ns.count

-- whether a link is passed from its first end to its second, and from its second to its first
unfoldable pub goes_out : Link → Bool
goes_out l = eqb l.direction both_ways || eqb l.direction out_only

unfoldable pub goes_back : Link → Bool
goes_back l = eqb l.direction both_ways || eqb l.direction back_only

-- the far end of a link for one who stands at a station: a link that is on is passed in its direction
abbrev pub across : Link → Station → Option Station
across l s =
    cond l.on
    (cond (goes_out l && same_station (station_of l.a) s) (some (station_of l.b))
    (cond (goes_back l && same_station (station_of l.b) s) (some (station_of l.a))
    none))
    none

-- its place
abbrev pub placed : Nodes → Option Station → Option ℕ
placed ns none = none
placed ns (some s) = some (station_place ns s)

-- the far end of link i for one who stands at the node at place a, if there is such a link
unfoldable pub far_end : Nodes → Links → ℕ → ℕ → Option ℕ
far_end ns ls i a = cond (ltb i ls.count) (placed ns (across (link_at ls i) (node_at ns a).station)) none

-- the net of the chart, for one who wants to come to a station
abbrev pub net_to : Chart → Station → Net
net_to c to =
    record {
      nodes = c.nodes.count;
      links = c.links.count;
      far = far_end c.nodes c.links;
      goal = station_place c.nodes to;
    }

-- all routes of the chart between two stations, in order
unfoldable pub routes_between : Chart → Station → Station → List (List ℕ)
routes_between c from to = all_routes (net_to c to) (station_place c.nodes from)

-- ---- what the question asks

-- the net, for the station that is asked for
unfoldable pub chart_net : Chart → Net
chart_net c = net_to c c.to

-- the place that the question begins at
unfoldable pub start : Chart → ℕ
start c = station_place c.nodes c.from

-- all routes that the chart's question asks for, in order
unfoldable pub routes_of : Chart → List (List ℕ)
routes_of c = routes_between c c.from c.to
