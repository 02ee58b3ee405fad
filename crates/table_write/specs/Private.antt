-- The table over the arrays that are kept of a chart: of an accepted chart it is `write_table_of`.
use Rattle.std.specs.Prelude.{ℕ, ◌||◌, cond, List, leb, ltb, get_or}
use Rattle.std.proofs.Math.Option.{Option, none, some}
use Rattle.lists.specs.Refusals.{refuse, unless_refused}
use Rattle.address.specs.declared.Station.{Station}
use Rattle.table.specs.declared.Table.{Table}
use Rattle.chart.specs.declared.Chart.{Chart}
use Rattle.chart.specs.Values.{most_nodes, most_links}
use Rattle.chart_net.specs.Private.{station_place_for, ends_for, passages_for}
use Rattle.route_fewest.specs.Private.{first_link_over}
use Rattle.table_write.specs.Writing.{TableWritten, entries_by, table_with, no_table}

-- a link's place, as it stands in the array of first links: 48 is none
unfoldable pub link_of : ℕ → Option ℕ
link_of i = cond (ltb i most_links) (some i) none

-- towards the node at a place, and the table of a station by such an array
unfoldable pub link_in : List ℕ → ℕ → Option ℕ
link_in first b = link_of (get_or first b most_links)

unfoldable pub table_over : Chart → Station → List ℕ → Table
table_over c s first = table_with s (entries_by (link_in first) c s c.nodes.count)

-- the first link to a node, over what is kept of a chart
unfoldable pub first_link_kept : Chart → Station → ℕ → Option ℕ
first_link_kept c s b = first_link_over (ends_for c.nodes c.links) (passages_for c.links) c.links.count (station_place_for c.nodes s) b

-- whether the chart is right or not: 44 where the place found is no node's
unfoldable pub known_refusal : Chart → Station → ℕ
known_refusal c s = refuse 44 (leb c.nodes.count (station_place_for c.nodes s) || leb most_nodes (station_place_for c.nodes s)) 0

unfoldable pub write_known_of : Chart → Station → TableWritten
write_known_of c s =
    unless_refused (known_refusal c s)
    (record { refusal = 0; table = table_with s (entries_by (first_link_kept c s) c s c.nodes.count) })
    (record { refusal = known_refusal c s; table = no_table })
