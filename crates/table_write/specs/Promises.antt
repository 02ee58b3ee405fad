-- What a table written from the chart says (document 02, Eight). proofs/Promises.antt has the theorems.
use Rattle.std.specs.Prelude.{ℕ, ◌<◌, ◌≡◌, ◌↔◌, true, List, ◌∷◌}
use Rattle.std.proofs.Math.Option.{some}
use Rattle.address.specs.declared.Port.{Port}
use Rattle.address.specs.declared.Station.{Station}
use Rattle.address.specs.declared.Address.{Address}
use Rattle.address.specs.Address.{station_of}
use Rattle.table.specs.declared.Target.TheVariants.{One}
use Rattle.table.specs.Choice.{Local, Out, Refused}
use Rattle.table.specs.Table.{entry_at, table_in_range, call_in_range, choose_of}
use Rattle.chart.specs.declared.Chart.{Chart}
use Rattle.chart.specs.Values.{node_at, link_at, has_node}
use Rattle.chart_refuse.specs.Refusal.{chart_refusal}
use Rattle.chart_net.specs.Net.{station_place, net_to}
use Rattle.route.specs.Route.{RouteFrom}
use Rattle.route_fewest.specs.Promises.{Fewest}
use Rattle.table_write.specs.Writing.{near_end, table_for}

-- the chart is accepted and has this station, so that its table is written
pub record HasTable (c : Chart) (s : Station) : Type 0 where
  pub chart : chart_refusal c ≡ 0
  pub node : has_node c.nodes s ≡ true

-- entry k is for the node at place b
pub record EntryFor (c : Chart) (s : Station) (k b : ℕ) : Type 0 where
  pub counts : k < (table_for c s).count
  pub node : b < c.nodes.count
  pub names : (entry_at (table_for c s) k).target ≡ One (node_at c.nodes b).station.brigade (node_at c.nodes b).station.node

-- the node at place b is another, and a route leads to it
pub record Reached (c : Chart) (s : Station) (b : ℕ) : Type 0 where
  pub other : station_place c.nodes s ≡ b → ⊥
  pub route : (r : List ℕ) × RouteFrom (net_to c (node_at c.nodes b).station) (station_place c.nodes s) r

-- every entry is for a node; there is one for exactly the nodes that are reached; and they stand in the order of the nodes, so that none has two
pub record EntriesSay (c : Chart) (s : Station) : Type 0 where
  pub named : (k : ℕ) → k < (table_for c s).count → (b : ℕ) × EntryFor c s k b
  pub each : (b : ℕ) → b < c.nodes.count → ((k : ℕ) × EntryFor c s k b) ↔ Reached c s b
  pub ordered : (j k a b : ℕ) → j < k → EntryFor c s j a → EntryFor c s k b → a < b

abbrev pub EveryEntry : Type 0
EveryEntry = (c : Chart) (s : Station) → HasTable c s → EntriesSay c s

-- entry k leaves over link i of the chart, which is on, has its near end at the station and can be passed from there: the first link of the first route with
-- the fewest links
pub record LeavesBy (c : Chart) (s : Station) (k b i : ℕ) : Type 0 where
  pub there : i < c.links.count
  pub lit : (link_at c.links i).on ≡ true
  pub near : station_of (near_end (link_at c.links i) s) ≡ s
  pub port : (entry_at (table_for c s) k).port ≡ (near_end (link_at c.links i) s).port
  pub passed : (f : ℕ) × ((net_to c (node_at c.nodes b).station).far i (station_place c.nodes s) ≡ some f)
  pub first : (r : List ℕ) × Fewest (net_to c (node_at c.nodes b).station) (station_place c.nodes s) (i ∷ r)

abbrev pub EveryPort : Type 0
EveryPort = (c : Chart) (s : Station) → HasTable c s → (k b : ℕ) → EntryFor c s k b → (i : ℕ) × LeavesBy c s k b i

-- the table is never refused with 50
abbrev pub WrittenInRange : Type 0
WrittenInRange = (c : Chart) (s : Station) → HasTable c s → table_in_range (table_for c s) ≡ true

-- where a message goes by that table: for the station itself it is local; for a node with an entry it leaves by that entry, unless it came in there; with no
-- entry there is no route
pub record Choices (c : Chart) (s : Station) (d : Address) (arrival : Port) : Type 0 where
  pub local : station_of d ≡ s → choose_of (table_for c s) d arrival ≡ Local d.port
  pub out : (k b : ℕ) → EntryFor c s k b → station_of d ≡ (node_at c.nodes b).station → ((entry_at (table_for c s) k).port ≡ arrival → ⊥)
      → choose_of (table_for c s) d arrival ≡ Out (entry_at (table_for c s) k).port
  pub back : (k b : ℕ) → EntryFor c s k b → station_of d ≡ (node_at c.nodes b).station → (entry_at (table_for c s) k).port ≡ arrival
      → choose_of (table_for c s) d arrival ≡ Refused 52
  pub none : (station_of d ≡ s → ⊥) → ((k b : ℕ) → EntryFor c s k b → station_of d ≡ (node_at c.nodes b).station → ⊥)
      → choose_of (table_for c s) d arrival ≡ Refused 52

abbrev pub EveryTableChoice : Type 0
EveryTableChoice = (c : Chart) (s : Station) → HasTable c s → (d : Address) (arrival : Port) → call_in_range d arrival ≡ true → Choices c s d arrival

-- two charts with the same stations and the same links: their labels and their questions may differ
pub record SameStations (c d : Chart) : Type 0 where
  pub count : c.nodes.count ≡ d.nodes.count
  pub stations : (i : ℕ) → (node_at c.nodes i).station ≡ (node_at d.nodes i).station
  pub links : c.links ≡ d.links

-- have the same tables
abbrev pub ByStations : Type 0
ByStations = (c d : Chart) → SameStations c d → (s : Station) → table_for c s ≡ table_for d s
