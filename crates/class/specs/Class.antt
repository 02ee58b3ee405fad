-- A message passed from node to node (document 02, Nine): a chart, and a table for each of its node places. Nodes and links go by their places.
use Rattle.std.specs.Prelude.{ℕ, zero, suc, ◌^◌, Bool, true, false, not, cond, ◌&&◌, ◌||◌, List, [], ◌∷◌, ◌++◌, eqb, leb}
use Rattle.std.proofs.Math.Option.{Option, none, some}
use Rattle.std.specs.Int.Bits.{bit_or}
use Rattle.lists.specs.Places.{any_below, first_below}
use Rattle.lists.specs.Refusals.{refuse}
use Rattle.address.specs.declared.Port.{Port}
use Rattle.address.specs.declared.Station.{Station}
use Rattle.address.specs.declared.Address.{Address}
use Rattle.address.specs.Address.{station_of, same_station}
use Rattle.table.specs.declared.Table.{Table}
use Rattle.table.specs.Choice.{Choice, Local, Out, Refused}
use Rattle.table.specs.Table.{own_station, table_in_range, call_in_range, choose_of}
use Rattle.chart.specs.declared.Link.{Link}
use Rattle.chart.specs.declared.Nodes.{Nodes}
use Rattle.chart.specs.declared.Chart.{Chart}
use Rattle.chart.specs.Values.{node_at, link_at}
use Rattle.chart_net.specs.Net.{far_end}
use Rattle.route_links.specs.Sets.{has}
use Rattle.table_write.specs.Writing.{near_end}
use Rattle.class.specs.declared.Message.{Message}

-- how a message stands: it is under way, or it ended so; any other number counts as ended
abbrev pub under_way : ℕ
under_way = 0

abbrev pub delivered : ℕ
delivered = 1

abbrev pub without_route : ℕ
without_route = 2

abbrev pub without_link : ℕ
without_link = 3

abbrev pub met_before : ℕ
met_before = 4

-- ---- out by a port

-- where a message comes in: at a node, by a port
pub record Arrival : Type 0 where
  pub node : ℕ
  pub port : Port

-- there is a far end
abbrev pub is_there : Option ℕ → Bool
is_there none = false
is_there (some f) = true

-- link i can be passed from the node at place a, and its near end has the port
unfoldable pub leaves_by : Chart → ℕ → Port → ℕ → Bool
leaves_by c a p i = is_there (far_end c.nodes c.links i a) && eqb (near_end (link_at c.links i) (node_at c.nodes a).station).port.0 p.0

-- the end at which one comes in who goes over a link from a station
unfoldable pub away_end : Link → Station → Address
away_end l s = cond (same_station (station_of l.a) s) l.b l.a

-- at the far end of a link, by its port
abbrev pub came_in : Port → Option ℕ → Option Arrival
came_in p none = none
came_in p (some f) = some (record { node = f; port = p })

-- over the link i
unfoldable pub came_over : Chart → ℕ → ℕ → Option Arrival
came_over c a i = came_in (away_end (link_at c.links i) (node_at c.nodes a).station).port (far_end c.nodes c.links i a)

-- where one comes in who leaves the node at place a by the port: none where no usable link leaves there
unfoldable pub out_by : Chart → ℕ → Port → Option Arrival
out_by c a p = came_over c a (first_below (leaves_by c a p) c.links.count)

-- ---- a step

-- it began at a node place, came in by port 0, and has met that node alone
unfoldable pub begun_at : ℕ → Message
begun_at a = record { at = a; arrival = record { 0 = 0 }; met = 2 ^ a; ending = under_way }

-- it ends where it is
unfoldable pub ended_with : ℕ → Message → Message
ended_with ending m = record { at = m.at; arrival = m.arrival; met = m.met; ending = ending }

-- it comes to a node: at one that it has met it ends
unfoldable pub came_to : Message → Arrival → Message
came_to m x =
    cond (has m.met x.node)
    (record { at = x.node; arrival = x.port; met = m.met; ending = met_before })
    (record { at = x.node; arrival = x.port; met = bit_or m.met (2 ^ x.node); ending = under_way })

unfoldable pub went_out : Message → Option Arrival → Message
went_out m none = ended_with without_link m
went_out m (some x) = came_to m x

-- what follows from the choice of the node where it is
unfoldable pub after_choice : Chart → Message → Choice → Message
after_choice c m (Local p) = ended_with delivered m
after_choice c m (Out p) = went_out m (out_by c m.at p)
after_choice c m (Refused k) = ended_with without_route m

module _ (c : Chart) (ts : ℕ → Table) (d : Address) where
  -- one step of a message for the destination; what has ended stays as it is
  unfoldable pub step_on : Message → Message
  step_on m = cond (eqb m.ending under_way) (after_choice c m (choose_of (ts m.at) d m.arrival)) m

  -- n steps
  unfoldable pub steps_on : ℕ → Message → Message
  steps_on zero m = m
  steps_on (suc n) m = steps_on n (step_on m)

  -- the node that a step came to, if it went over a link
  unfoldable pub new_place : Message → List ℕ
  new_place m = cond (eqb m.ending under_way || eqb m.ending met_before) (m.at ∷ []) []

  -- the nodes that n steps come to, in order
  unfoldable pub places_on : ℕ → Message → List ℕ
  places_on zero m = []
  places_on (suc n) m = cond (eqb m.ending under_way) (new_place (step_on m) ++ places_on n (step_on m)) []

  -- from a node place until it ends, which takes at most as many steps as there are nodes: the way, and the ending
  unfoldable pub way_from : ℕ → List ℕ
  way_from a = a ∷ places_on c.nodes.count (begun_at a)

  unfoldable pub ending_from : ℕ → ℕ
  ending_from a = (steps_on c.nodes.count (begun_at a)).ending

-- ---- the refusals, after the chart's

-- the table of the node at place b is out of range; it is another node's
unfoldable pub stray_table : (ℕ → Table) → ℕ → Bool
stray_table ts b = not (table_in_range (ts b))

unfoldable pub strange_table : Nodes → (ℕ → Table) → ℕ → Bool
strange_table ns ts b = not (same_station (own_station (ts b)) (node_at ns b).station)

-- 50 a table, 44 the place where the message is, 95 a table that is not its node's, 51 the destination or the arrival port. Tables past the nodes are not
-- looked at
unfoldable pub class_refusal : Nodes → (ℕ → Table) → Address → ℕ → Port → ℕ
class_refusal ns ts d a arrival =
    refuse 50 (any_below (stray_table ts) ns.count)
    (refuse 44 (leb ns.count a)
    (refuse 95 (any_below (strange_table ns ts) ns.count)
    (refuse 51 (not (call_in_range d arrival)) 0)))
