-- Keys: a station or an end as one number, so that two of them are compared at once; and the numbers 23 to 30 of one value by the keys of those before it.
use Rattle.std.specs.Prelude.{ℕ, ◌+◌, ◌*◌, ◌<◌, ◌≤◌, ◌≡◌, List, Bool, false, ◌||◌, length, get_or, eqb}
use Rattle.lists.specs.Places.{any_below}
use Rattle.address.specs.declared.Station.{Station}
use Rattle.address.specs.declared.Address.{Address}
use Rattle.chart.specs.declared.ChartNode.{ChartNode}
use Rattle.chart.specs.declared.Link.{Link}
use Rattle.chart.specs.declared.Nodes.{Nodes}
use Rattle.chart.specs.declared.Links.{Links}
use Rattle.chart.specs.Values.{plain, both_ways, most_nodes, node_at, link_at}
use Rattle.chart.specs.Refusals.{node_refusal_by, link_refusal_by, question_refusal_by}

-- the three bytes of a station as one number, the four of an end
unfoldable pub station_key : Station → ℕ
station_key s = s.brigade * 65536 + s.node.0

unfoldable pub end_key : Address → ℕ
end_key e = e.brigade * 16777216 + e.node.0 * 256 + e.port.0

-- the number is the station's key, and the station's node has two bytes, so that no other station has it
pub record StationKeyed (s : Station) (k : ℕ) : Type 0 where
  pub key : k ≡ station_key s
  pub node : s.node.0 ≤ 65535

-- the same of an end
pub record EndKeyed (e : Address) (k : ℕ) : Type 0 where
  pub key : k ≡ end_key e
  pub node : e.node.0 ≤ 65535
  pub port : e.port.0 ≤ 255

-- the keys of all 16 places of nodes
pub record KeysOf (ns : Nodes) (keys : List ℕ) : Type 0 where
  pub long : length keys ≡ most_nodes
  pub keyed : (i : ℕ) → i < most_nodes → StationKeyed (node_at ns i).station (get_or keys i 0)

-- the keys of the nodes, and those of the links' ends, place by place
abbrev pub KeyedNodes : Nodes → List ℕ → Type 0
KeyedNodes ns keys = (i : ℕ) → i < ns.count → StationKeyed (node_at ns i).station (get_or keys i 0)

pub record KeyedLinks (ls : Links) (akeys bkeys : List ℕ) : Type 0 where
  pub a : (i : ℕ) → i < ls.count → EndKeyed (link_at ls i).a (get_or akeys i 0)
  pub b : (i : ℕ) → i < ls.count → EndKeyed (link_at ls i).b (get_or bkeys i 0)

-- ---- what is written, by keys

-- the key at a place is this one
unfoldable pub key_is : List ℕ → ℕ → ℕ → Bool
key_is keys k i = eqb (get_or keys i 0) k

-- the station's key is among the first n
unfoldable pub known : List ℕ → ℕ → Station → Bool
known keys n s = any_below (key_is keys (station_key s)) n

-- the end's key is among those of the first m links: of their first ends, or of their second
unfoldable pub used_by : List ℕ → List ℕ → ℕ → Address → Bool
used_by akeys bkeys m e = any_below (key_is akeys (end_key e)) m || any_below (key_is bkeys (end_key e)) m

-- ---- the numbers, by the first n keys of nodes and the first m of links

unfoldable pub node_refusal_by_keys : Bool → List ℕ → ℕ → ChartNode → ℕ
node_refusal_by_keys late keys n x = node_refusal_by late n (known keys n) x

unfoldable pub link_refusal_by_keys : Bool → ℕ → List ℕ → ℕ → List ℕ → List ℕ → ℕ → Link → ℕ
link_refusal_by_keys late form keys n akeys bkeys m l = link_refusal_by late form n m (known keys n) (used_by akeys bkeys m) l

-- a plain link between two ends, and its number: what is left of a link's number once its direction is in range
abbrev pub plain_link : Address → Address → Link
plain_link a b = record { a = a; b = b; on = false; direction = both_ways }

unfoldable pub ends_refusal_by_keys : Bool → List ℕ → ℕ → List ℕ → List ℕ → ℕ → Address → Address → ℕ
ends_refusal_by_keys late keys n akeys bkeys m a b = link_refusal_by_keys late plain keys n akeys bkeys m (plain_link a b)

unfoldable pub question_refusal_by_keys : Bool → List ℕ → ℕ → Station → Station → ℕ
question_refusal_by_keys late keys n from to = question_refusal_by late n (known keys n) from to
