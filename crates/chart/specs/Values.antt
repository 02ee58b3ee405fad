-- The chart as values (document 01, "The chart"; document 02, Five): which values are in range, which nodes are written and which ends are used.
use Rattle.std.specs.Prelude.{ℕ, List, Bool, false, not, ◌&&◌, ◌||◌, cond, get_or, replicate, eqb, ltb, leb}
use Rattle.lists.specs.Places.{any_below, element_at}
use Rattle.address.specs.declared.Station.{Station}
use Rattle.address.specs.declared.Address.{Address}
use Rattle.address.specs.Address.{station_of, station_in_range, in_range, same_station, same_address, zero_address}
use Rattle.chart.specs.declared.ChartNode.{ChartNode}
use Rattle.chart.specs.declared.Link.{Link}
use Rattle.chart.specs.declared.Nodes.{Nodes}
use Rattle.chart.specs.declared.Links.{Links}
use Rattle.chart.specs.declared.Chart.{Chart}

-- the limits: 16 nodes, 48 links, 24 bytes of label, each 32 to 126
abbrev pub most_nodes : ℕ
most_nodes = 16

abbrev pub most_links : ℕ
most_links = 48

abbrev pub longest_label : ℕ
longest_label = 24

abbrev pub lowest_byte : ℕ
lowest_byte = 32

abbrev pub highest_byte : ℕ
highest_byte = 126

-- the forms of links: the tag that they are written with
abbrev pub plain : ℕ
plain = 2

abbrev pub directed : ℕ
directed = 4

-- the directions of a link: both ways, out from its first end to its second, back from its second to its first
abbrev pub both_ways : ℕ
both_ways = 0

abbrev pub out_only : ℕ
out_only = 1

abbrev pub back_only : ℕ
back_only = 2

-- what stands at an unused place: every number 0
abbrev pub no_station : Station
no_station = station_of zero_address

abbrev pub no_node : ChartNode
no_node = record { station = no_station; length = 0; label = replicate 24 0 }

abbrev pub no_link : Link
no_link = record { a = zero_address; b = zero_address; on = false; direction = both_ways }

-- no links are of the plain form
abbrev pub no_links : Links
no_links = record { count = 0; form = plain; items = replicate 48 no_link }

-- the chart that stands beside a refusal: no nodes, no links, every number 0
unfoldable pub no_chart : Chart
no_chart =
    record {
      nodes = record { count = 0; items = replicate 16 no_node };
      links = no_links;
      from = no_station;
      to = no_station;
    }

-- the node and the link at a place
unfoldable pub node_at : Nodes → ℕ → ChartNode
node_at ns i = element_at no_node ns.items i

unfoldable pub link_at : Links → ℕ → Link
link_at ls i = element_at no_link ls.items i

-- ---- ranges

-- the byte at a place of a label is none of 32 to 126
unfoldable pub stray_byte : List ℕ → ℕ → Bool
stray_byte label i = ltb (get_or label i 0) lowest_byte || ltb highest_byte (get_or label i 0)

-- the station is in range, and so is each byte of the label
unfoldable pub node_in_range : ChartNode → Bool
node_in_range n = station_in_range n.station && not (any_below (stray_byte n.label) n.length)

-- a link's end is an address with a port 1 to 63: port 0 is the router
unfoldable pub end_in_range : Address → Bool
end_in_range e = leb 1 e.port.0 && in_range e

-- a plain link goes both ways, a directed one in any of the three directions; no other form has a direction
unfoldable pub direction_in_range : ℕ → ℕ → Bool
direction_in_range form d = cond (eqb form plain) (eqb d both_ways) (eqb form directed && leb d back_only)

-- both ends of a link are in range, and so is its direction
unfoldable pub link_in_range : ℕ → Link → Bool
link_in_range form l = end_in_range l.a && end_in_range l.b && direction_in_range form l.direction

-- ---- what is written

-- the node at a place stands at this station: its brigade and node number are compared, its label is not looked at
unfoldable pub stands_at : Nodes → Station → ℕ → Bool
stands_at ns s i = same_station (node_at ns i).station s

-- a node at this station is among the nodes
unfoldable pub has_node : Nodes → Station → Bool
has_node ns s = any_below (stands_at ns s) ns.count

-- the address is an end of the link at a place
unfoldable pub ends_at : Links → Address → ℕ → Bool
ends_at ls e i = same_address (link_at ls i).a e || same_address (link_at ls i).b e

-- the address is an end of one of the links
unfoldable pub has_end : Links → Address → Bool
has_end ls e = any_below (ends_at ls e) ls.count
