-- What a class says (document 02, Nine). proofs/Promises.antt has the theorems.
use Rattle.std.specs.Prelude.{ℕ, zero, suc, ◌+◌, ◌<◌, ◌≤◌, ◌≡◌, ◌↔◌, ◌⊎◌, true, length}
use Rattle.std.proofs.Math.Option.{Option, none, some}
use mathlib.Core.List.{List, [], ◌∷◌, ◌++◌, Memᴰ}
use Rattle.address.specs.declared.Station.{Station}
use Rattle.address.specs.declared.Address.{Address}
use Rattle.address.specs.Address.{station_of}
use Rattle.buffer.specs.Bytes.{Bytes}
use Rattle.table.specs.declared.Table.{Table}
use Rattle.table.specs.Choice.{Out}
use Rattle.table.specs.Table.{choose_of}
use Rattle.chart.specs.declared.Chart.{Chart}
use Rattle.chart.specs.Values.{node_at, link_at}
use Rattle.chart_refuse.specs.Refusal.{chart_refusal}
use Rattle.chart_net.specs.Net.{station_place, far_end, net_to}
use Rattle.route.specs.Route.{Net, RouteFrom}
use Rattle.route_fewest.specs.Promises.{Fewest}
use Rattle.table_write.specs.Writing.{near_end, table_for}
use Rattle.class.specs.declared.Message.{Message}
use Rattle.class.specs.Class.{under_way, delivered, met_before, away_end, begun_at, step_on, steps_on, way_from, ending_from, class_refusal}
use Rattle.class.specs.Calls.{Sent, chart_of, tables_in, send_refusal, begin_of, step_of}

-- the chart is accepted, and so is the message for the destination from a station
pub record Taken (c : Chart) (ts : ℕ → Table) (d : Address) (s : Station) : Type 0 where
  pub chart : chart_refusal c ≡ 0
  pub class : class_refusal c.nodes ts d (station_place c.nodes s) (record { 0 = 0 }) ≡ 0

-- ---- whatever the tables

-- it ends within as many steps as there are nodes, and then stays as it is
abbrev pub EndsInTime : Type 0
EndsInTime = (c : Chart) (ts : ℕ → Table) (d : Address) (s : Station) → Taken c ts d s → ending_from c ts d (station_place c.nodes s) ≡ under_way → ⊥

abbrev pub StaysEnded : Type 0
StaysEnded = (c : Chart) (ts : ℕ → Table) (d : Address) (m : Message) → (m.ending ≡ under_way → ⊥) → (n : ℕ) → steps_on c ts d n m ≡ m

-- the step of a message m goes over link i: the node's choice is the port of the link's near end, the link is on and is passed in its direction, and the
-- message comes to the node where its other end stands, in by the port there
pub record GoesOver (c : Chart) (ts : ℕ → Table) (d : Address) (m : Message) (i : ℕ) : Type 0 where
  pub there : i < c.links.count
  pub lit : (link_at c.links i).on ≡ true
  pub chosen : choose_of (ts m.at) d m.arrival ≡ Out (near_end (link_at c.links i) (node_at c.nodes m.at).station).port
  pub near : station_of (near_end (link_at c.links i) (node_at c.nodes m.at).station) ≡ (node_at c.nodes m.at).station
  pub far : far_end c.nodes c.links i m.at ≡ some (step_on c ts d m).at
  pub away : station_of (away_end (link_at c.links i) (node_at c.nodes m.at).station) ≡ (node_at c.nodes (step_on c ts d m).at).station
  pub port : (step_on c ts d m).arrival ≡ (away_end (link_at c.links i) (node_at c.nodes m.at).station).port

-- every step that does not end a message where it is goes over a link
abbrev pub AlongLinks : Type 0
AlongLinks = (c : Chart) (ts : ℕ → Table) (d : Address) (m : Message) → chart_refusal c ≡ 0 → m.ending ≡ under_way
    → ((step_on c ts d m).ending ≡ under_way) ⊎ ((step_on c ts d m).ending ≡ met_before) → (i : ℕ) × GoesOver c ts d m i

-- none of these stands twice
abbrev pub AllDifferent : List ℕ → Type 0
AllDifferent [] = Unit {0}
AllDifferent (a ∷ l) = (Memᴰ a l → ⊥) × AllDifferent l

-- the nodes of the way are all different, but for an ending at a node met before: that one comes last, and was there. So it has at most one place more than there
-- are nodes
pub record WayTells (c : Chart) (ts : ℕ → Table) (d : Address) (a : ℕ) : Type 0 where
  pub short : length (way_from c ts d a) ≤ c.nodes.count + 1
  pub different : (ending_from c ts d a ≡ met_before → ⊥) → AllDifferent (way_from c ts d a)
  pub again : ending_from c ts d a ≡ met_before → (w : List ℕ) × (f : ℕ) × (way_from c ts d a ≡ w ++ (f ∷ [])) × AllDifferent w × Memᴰ f w

abbrev pub EveryWay : Type 0
EveryWay = (c : Chart) (ts : ℕ → Table) (d : Address) (s : Station) → Taken c ts d s → WayTells c ts d (station_place c.nodes s)

-- ---- with the tables that are written from the chart

abbrev pub Written : Chart → (ℕ → Table) → Type 0
Written c ts = (a : ℕ) → a < c.nodes.count → ts a ≡ table_for c (node_at c.nodes a).station

-- it is delivered exactly if a route leads from the start to the destination's node
abbrev pub DeliveredExactly : Type 0
DeliveredExactly = (c : Chart) (ts : ℕ → Table) (d : Address) (s : Station) → Taken c ts d s → Written c ts
    → (ending_from c ts d (station_place c.nodes s) ≡ delivered) ↔ ((r : List ℕ) × RouteFrom (net_to c (station_of d)) (station_place c.nodes s) r)

-- the nodes along a route, from a node on
abbrev pub onward : (ℕ → List ℕ) → Option ℕ → List ℕ
onward next none = []
onward next (some f) = next f

unfoldable pub along : Net → List ℕ → ℕ → List ℕ
along G [] a = a ∷ []
along G (i ∷ r) a = a ∷ onward (λ f. along G r f) (G.far i a)

-- and its way is along the first route with the fewest links
abbrev pub AlongFewest : Type 0
AlongFewest = (c : Chart) (ts : ℕ → Table) (d : Address) (s : Station) → Taken c ts d s → Written c ts → (r : List ℕ)
    → Fewest (net_to c (station_of d)) (station_place c.nodes s) r
    → way_from c ts d (station_place c.nodes s) ≡ along (net_to c (station_of d)) r (station_place c.nodes s)

-- ---- the calls

-- a message begun, and n steps after it, each by a call of its own
unfoldable pub sent_after : List ℕ → List ℕ → Address → Station → ℕ → Sent
sent_after bytes tables d s zero = begin_of bytes tables d s
sent_after bytes tables d s (suc n) = step_of bytes tables d (sent_after bytes tables d s n).message

-- none of them is refused where the first is not, and they are the steps that were spoken of
abbrev pub StepByStep : Type 0
StepByStep = (bytes tables : List ℕ) (d : Address) (s : Station) → Bytes bytes → send_refusal bytes tables d s ≡ 0 → (n : ℕ)
    → sent_after bytes tables d s n
    ≡ record {
      refusal = 0;
      place = 0;
      message = steps_on (chart_of bytes) (tables_in tables) d n (begun_at (station_place (chart_of bytes).nodes s));
    }
