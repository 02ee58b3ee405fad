-- What the net of a chart says (document 01, "Routes and their order", "Easy slips"; document 02, Five). proofs/Promises.antt has the theorems.
use Rattle.std.specs.Prelude.{ℕ, ◌<◌, ◌≡◌, true, false}
use Rattle.std.proofs.Math.Option.{none}
use mathlib.Core.List.{List, ◌∷◌, ◌++◌, Memᴰ}
use Rattle.address.specs.declared.Station.{Station}
use Rattle.address.specs.Address.{station_of, same_station}
use Rattle.chart.specs.declared.Chart.{Chart}
use Rattle.chart.specs.Values.{node_at, link_at, has_node}
use Rattle.chart_refuse.specs.Promises.{Accepted}
use Rattle.route.specs.Route.{Sound, RouteFrom}
use Rattle.route.specs.Promises.{TwoRoutes}
use Rattle.chart_net.specs.Net.{goes_out, goes_back, routes_between, chart_net, start, routes_of}
use Rattle.chart_net.specs.Private.{array_routes_between, array_routes}

-- the arrays that the trace keeps of an accepted chart have the chart's routes: from each of its stations to any station, and those that its question asks for
abbrev pub SameRoutesBetween : Type 0
SameRoutesBetween = (c : Chart) → Accepted c → (s t : Station) → has_node c.nodes s ≡ true → array_routes_between c s t ≡ routes_between c s t

abbrev pub SameRoutes : Type 0
SameRoutes = (c : Chart) → Accepted c → array_routes c ≡ routes_of c

-- in an accepted chart every far end is a node, and the question begins at one
pub record EndsAtNodes (c : Chart) : Type 0 where
  pub sound : Sound (chart_net c)
  pub begins : start c < c.nodes.count

abbrev pub AcceptedEnds : Type 0
AcceptedEnds = (c : Chart) → Accepted c → EndsAtNodes c

-- two charts that differ in their labels alone
pub record LabelsAside (c d : Chart) : Type 0 where
  pub count : c.nodes.count ≡ d.nodes.count
  pub stations : (i : ℕ) → (node_at c.nodes i).station ≡ (node_at d.nodes i).station
  pub links : c.links ≡ d.links
  pub from : c.from ≡ d.from
  pub to : c.to ≡ d.to

-- nodes go by their stations: such charts have the same routes
abbrev pub ByStation : Type 0
ByStation = (c d : Chart) → LabelsAside c d → routes_of c ≡ routes_of d

-- a list of links is a route that the chart's question asks for
abbrev pub IsRouteOf : Chart → List ℕ → Type 0
IsRouteOf c r = RouteFrom (chart_net c) (start c) r

-- a link that is off is in no route
abbrev pub OffLink : Type 0
OffLink = (c : Chart) (i : ℕ) → (link_at c.links i).on ≡ false → (r : List ℕ) → IsRouteOf c r → Memᴰ i r → ⊥

-- a link is passed in its direction alone: from a node where it goes elsewhere it leads nowhere
pub record AgainstTheWay (c : Chart) (i a : ℕ) : Type 0 where
  pub out : goes_out (link_at c.links i) ≡ true → same_station (station_of (link_at c.links i).a) (node_at c.nodes a).station ≡ false
  pub back : goes_back (link_at c.links i) ≡ true → same_station (station_of (link_at c.links i).b) (node_at c.nodes a).station ≡ false

abbrev pub OneWay : Type 0
OneWay = (c : Chart) (i a : ℕ) → AgainstTheWay c i a → (chart_net c).far i a ≡ none

-- the links i and j join the same two stations, in the same direction, and both are on or both are off
pub record Twins (c : Chart) (i j : ℕ) : Type 0 where
  pub a : station_of (link_at c.links i).a ≡ station_of (link_at c.links j).a
  pub b : station_of (link_at c.links i).b ≡ station_of (link_at c.links j).b
  pub on : (link_at c.links i).on ≡ (link_at c.links j).on
  pub direction : (link_at c.links i).direction ≡ (link_at c.links j).direction

-- two such links are two: where one is in a route, the other in its place makes another route
abbrev pub TwinLink : Type 0
TwinLink = (c : Chart) (i j : ℕ) → Twins c i j → i < c.links.count → j < c.links.count → (i ≡ j → ⊥) → (p r : List ℕ)
    → IsRouteOf c (p ++ (i ∷ r)) → TwoRoutes (chart_net c) (start c) (p ++ (i ∷ r)) (p ++ (j ∷ r))
