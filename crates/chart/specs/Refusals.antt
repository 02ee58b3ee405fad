-- The numbers 23 to 30 of one value, after the nodes and links before it: the lowest that applies, 0 where none does (document 01, "The chart"; document 02,
-- Five).
use Rattle.std.specs.Prelude.{ℕ, Bool, not, ◌&&◌, ◌||◌, ltb, leb}
use Rattle.lists.specs.Refusals.{refuse}
use Rattle.address.specs.declared.Station.{Station}
use Rattle.address.specs.declared.Address.{Address}
use Rattle.address.specs.Address.{station_of, station_in_range, same_station}
use Rattle.chart.specs.declared.ChartNode.{ChartNode}
use Rattle.chart.specs.declared.Link.{Link}
use Rattle.chart.specs.declared.Nodes.{Nodes}
use Rattle.chart.specs.declared.Links.{Links}
use Rattle.chart.specs.Values.{most_nodes, most_links, longest_label, node_in_range, link_in_range, has_node, has_end}

-- a node's number after so many nodes, whose stations are known: 23 its label would give the field a length that a node does not allow, 24 a value out of
-- range, 25 it comes too late, 26 the nodes are 16 already, 27 one of them has its station
unfoldable pub node_refusal_by : Bool → ℕ → (Station → Bool) → ChartNode → ℕ
node_refusal_by late nodes known n =
    refuse 23 (ltb longest_label n.length)
    (refuse 24 (not (node_in_range n))
    (refuse 25 late
    (refuse 26 (leb most_nodes nodes)
    (refuse 27 (known n.station) 0))))

-- the number of a link of this form after so many nodes and links, whose ends are taken: 24 a value out of range, 25 it comes too late, 26 the links are 48
-- already (or the nodes too many), 28 an end at no node, 29 both ends at one node, 30 an end that an earlier link has
unfoldable pub link_refusal_by : Bool → ℕ → ℕ → ℕ → (Station → Bool) → (Address → Bool) → Link → ℕ
link_refusal_by late form nodes links known taken l =
    refuse 24 (not (link_in_range form l))
    (refuse 25 late
    (refuse 26 (ltb most_nodes nodes)
    (refuse 26 (leb most_links links)
    (refuse 28 (not (known (station_of l.a) && known (station_of l.b)))
    (refuse 29 (same_station (station_of l.a) (station_of l.b))
    (refuse 30 (taken l.a || taken l.b) 0))))))

-- the question's number, likewise: 24 a value out of range, 25 it comes too late, 26 the nodes are too many, 28 a station at no node
unfoldable pub question_refusal_by : Bool → ℕ → (Station → Bool) → Station → Station → ℕ
question_refusal_by late nodes known from to =
    refuse 24 (not (station_in_range from && station_in_range to))
    (refuse 25 late
    (refuse 26 (ltb most_nodes nodes)
    (refuse 28 (not (known from && known to)) 0)))

-- these numbers after the nodes and links themselves
unfoldable pub node_refusal : Bool → Nodes → ChartNode → ℕ
node_refusal late ns n = node_refusal_by late ns.count (has_node ns) n

unfoldable pub link_refusal : Bool → ℕ → Nodes → Links → Link → ℕ
link_refusal late form ns ls l = link_refusal_by late form ns.count ls.count (has_node ns) (has_end ls) l

unfoldable pub question_refusal : Bool → Nodes → Station → Station → ℕ
question_refusal late ns from to = question_refusal_by late ns.count (has_node ns) from to
