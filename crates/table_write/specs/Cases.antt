-- The tables of S: of 9/1, of 9/30, and of 9/1 where the link to the first Hill goes back only.
use Rattle.std.specs.Prelude.{ℕ, ◌≡◌, refl, true, List, ◌∷◌, replicate}
use Rattle.std.proofs.Math.Option.{none, some}
use Rattle.lists.specs.Chains.{first_refusal_below}
use Rattle.lists.specs.Places.{any_below, first_from, first_below, element_at}
use Rattle.lists.specs.Refusals.{unless_refused}
use Rattle.address.specs.Address.{station_in_range, in_range, same_station, same_address}
use Rattle.table.specs.declared.Entry.{Entry}
use Rattle.table.specs.declared.Table.{Table}
use Rattle.table.specs.declared.Target.TheVariants.{One}
use Rattle.table.specs.Table.{no_entry}
use Rattle.table.specs.Cases.{entry}
use Rattle.chart.specs.Values.{no_chart, node_at, link_at, stray_byte, node_in_range, end_in_range, direction_in_range, link_in_range, stands_at, has_node, ends_at, has_end}
use Rattle.chart.specs.Refusals.{node_refusal_by, link_refusal_by, question_refusal_by, node_refusal, link_refusal, question_refusal}
use Rattle.chart.specs.Sample.{station_s, link_s, S}
use Rattle.chart_refuse.specs.Refusal.{node_refusal_at, link_refusal_at, chart_values_refusal, chart_refusal}
use Rattle.route.specs.Route.{also, only}
use Rattle.route.specs.All.{up_from, links_from, over, tries, routes, unmet, all_from, all_routes}
use Rattle.chart_net.specs.Net.{station_place, goes_out, goes_back, far_end, routes_between}
use Rattle.chart_net.specs.Cases.{turned}
use Rattle.route_fewest.specs.Fewest.{or_fewer, fewest_of, head_of}
use Rattle.table_write.specs.Writing.{TableWritten, first_link_to, near_end, entry_over, entry_by, entries_by, table_with, table_for, table_refusal, no_table, write_table_of}

-- an entry, on, for node n of brigade 9, out by a port; and the table of such a node
abbrev pub to_s : ℕ → ℕ → Entry
to_s n port = entry (One 9 (record { 0 = n })) port true

abbrev pub table_s : ℕ → List Entry → ℕ → Table
table_s n entries count = record { brigade = 9; node = record { 0 = n }; count = count; entries = entries }

-- a refusal: every number of the table 0, and no entry
abbrev pub refused_with : ℕ → TableWritten
refused_with k = record { refusal = k; table = record { brigade = 0; node = record { 0 = 0 }; count = 0; entries = replicate 32 no_entry } }

pub record Cases : Type 0 where
  pub control : write_table_of S (station_s 1) ≡ record { refusal = 0; table = table_s 1 (to_s 20 2 ∷ to_s 21 3 ∷ to_s 30 2 ∷ replicate 29 no_entry) 3 }
  -- by the near end of a link, which is its second here
  pub quay : write_table_of S (station_s 30) ≡ record { refusal = 0; table = table_s 30 (to_s 1 1 ∷ to_s 20 1 ∷ to_s 21 2 ∷ replicate 29 no_entry) 3 }
  -- where link 0 goes back only, 9/20 is reached by 9/21
  pub back : table_for (turned 2) (station_s 1) ≡ table_s 1 (to_s 20 3 ∷ to_s 21 3 ∷ to_s 30 3 ∷ replicate 29 no_entry) 3
  -- the chart's number comes first, then 44
  pub nobody : write_table_of S (station_s 99) ≡ refused_with 44
  pub chart_first : write_table_of no_chart (station_s 99) ≡ refused_with 28
  -- to itself there is no first link
  pub itself : first_link_to S (station_s 20) (station_s 20) ≡ none
  pub first : (first_link_to S (station_s 1) (station_s 30) ≡ some 0) × (first_link_to S (station_s 30) (station_s 1) ≡ some 2)
  pub ends : ((near_end (link_s 1 2 20 7 true) (station_s 1)).port.0 ≡ 2) × ((near_end (link_s 1 2 20 7 true) (station_s 20)).port.0 ≡ 7)

pub cases : Cases
unfolding S no_chart first_refusal_below unless_refused any_below first_from first_below element_at station_in_range in_range same_station same_address node_at link_at stray_byte node_in_range end_in_range direction_in_range link_in_range stands_at has_node ends_at has_end node_refusal_by link_refusal_by question_refusal_by node_refusal link_refusal question_refusal node_refusal_at link_refusal_at chart_values_refusal chart_refusal also only up_from links_from over tries routes unmet all_from all_routes station_place goes_out goes_back far_end routes_between or_fewer fewest_of head_of first_link_to near_end entry_over entry_by entries_by table_with table_for table_refusal no_table write_table_of
cases =
    record {
      control = refl;
      quay = refl;
      back = refl;
      nobody = refl;
      chart_first = refl;
      itself = refl;
      first = (refl, refl);
      ends = (refl, refl);
    }
