-- A node's routing table written from the chart (document 02, Eight). The chart's question is not used.
use Rattle.std.specs.Prelude.{ℕ, zero, suc, ◌-◌, true, not, cond, List, [], ◌∷◌, ◌++◌, length, replicate, Result, Ok, Err}
use Rattle.std.proofs.Math.Option.{Option, none, some}
use Rattle.lists.specs.Refusals.{refuse, or_else, unless_refused}
use Rattle.refusal.specs.declared.Refusal.{Refusal}
use Rattle.refusal.specs.Numbers.{number}
use Rattle.address.specs.declared.Station.{Station}
use Rattle.address.specs.declared.Address.{Address}
use Rattle.address.specs.Address.{station_of, same_station}
use Rattle.table.specs.declared.Entry.{Entry}
use Rattle.table.specs.declared.Table.{Table}
use Rattle.table.specs.declared.Target.TheVariants.{One}
use Rattle.table.specs.Table.{most_entries, no_entry}
use Rattle.chart.specs.declared.Link.{Link}
use Rattle.chart.specs.declared.Chart.{Chart}
use Rattle.chart.specs.Values.{no_station, node_at, link_at, has_node}
use Rattle.chart_refuse.specs.Refusal.{chart_refusal}
use Rattle.chart_net.specs.Net.{routes_between}
use Rattle.route_fewest.specs.Fewest.{fewest_of, head_of}

-- ---- an entry

-- of all routes between two stations one with the fewest links, among those the first in route order: its first link
unfoldable pub first_link_to : Chart → Station → Station → Option ℕ
first_link_to c from to = head_of (fewest_of (routes_between c from to))

-- the end by which one who stands at a station leaves over a link
unfoldable pub near_end : Link → Station → Address
near_end l s = cond (same_station (station_of l.a) s) l.a l.b

-- an entry of a station's table, on, that names one node and leaves over a link
unfoldable pub entry_over : Link → Station → Station → Entry
entry_over l from to = record { target = One to.brigade to.node; port = (near_end l from).port; on = true }

-- over the link at a place; without a link there is no entry
unfoldable pub entry_by : Chart → Station → Station → Option ℕ → List Entry
entry_by c from to none = []
entry_by c from to (some i) = entry_over (link_at c.links i) from to ∷ []

-- ---- a table

-- the entries for the nodes at the places below n, in their order, where first b is the link towards the node at place b
unfoldable pub entries_by : (ℕ → Option ℕ) → Chart → Station → ℕ → List Entry
entries_by first c from zero = []
entries_by first c from (suc n) = entries_by first c from n ++ entry_by c from (node_at c.nodes n).station (first n)

-- a station's table with these entries, the unused ones everything, port 0, off
unfoldable pub table_with : Station → List Entry → Table
table_with s es = record { brigade = s.brigade; node = s.node; count = length es; entries = es ++ replicate (most_entries - length es) no_entry }

-- the table of one of the chart's stations: an entry for every other node that a route reaches. The route from a node to itself is empty, so that it has
-- no first link and its own node no entry
unfoldable pub table_for : Chart → Station → Table
table_for c s = table_with s (entries_by (λ b. first_link_to c s (node_at c.nodes b).station) c s c.nodes.count)

-- ---- what is answered

-- the chart's number, as the chart writer gives it; then 44: the chart has no such node
unfoldable pub table_refusal : Chart → Station → ℕ
table_refusal c s = or_else (chart_refusal c) (refuse 44 (not (has_node c.nodes s)) 0)

-- what is written: the number, and the table
pub record TableWritten : Type 0 where
  pub refusal : ℕ
  pub table : Table

-- beside a refusal: a table of no station, without entries
unfoldable pub no_table : Table
no_table = table_with no_station []

-- what a table writer's result is as an answer: beside a refusal the table has no station and no entry
abbrev pub table_written : Result Table Refusal → TableWritten
table_written (Ok t) = record { refusal = 0; table = t }
table_written (Err r) = record { refusal = number r; table = table_with no_station [] }

unfoldable pub write_table_of : Chart → Station → TableWritten
write_table_of c s =
    unless_refused (table_refusal c s)
    (record { refusal = 0; table = table_for c s })
    (record { refusal = table_refusal c s; table = no_table })
