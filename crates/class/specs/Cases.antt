-- Messages passed over S: with the tables that are written from it, and with tables typed by hand for each ending.
use Rattle.std.specs.Prelude.{ℕ, ◌≡◌, refl, true, cond, [], ◌∷◌, ◌++◌, eqb, replicate}
use Rattle.std.proofs.Math.Option.{none, some}
use Rattle.lists.specs.Places.{any_below, first_from, first_below, element_at, joined}
use Rattle.address.specs.declared.Address.{Address}
use Rattle.address.specs.Address.{address_of, station_in_range, in_range, same_station}
use Rattle.table.specs.declared.Table.{Table}
use Rattle.table.specs.declared.Target.TheVariants.{Everything}
use Rattle.table.specs.Table.{no_entry, entry_at, is_own, covers, qualifies, qualifies_at, has_route, out_port, out_choice, target_in_range, entry_in_range, stray_entry, table_in_range, call_in_range, choose_of}
use Rattle.table.specs.Cases.{entry}
use Rattle.table_image.specs.Table.{target_bytes, entry_bytes, table_image}
use Rattle.chart.specs.Values.{node_at, link_at, stands_at}
use Rattle.chart.specs.Sample.{S}
use Rattle.route.specs.Route.{also, only}
use Rattle.route.specs.All.{up_from, links_from, over, tries, routes, unmet, all_from, all_routes}
use Rattle.route_links.specs.Sets.{has}
use Rattle.chart_net.specs.Net.{station_place, goes_out, goes_back, far_end, routes_between}
use Rattle.route_fewest.specs.Fewest.{or_fewer, fewest_of, head_of}
use Rattle.table_write.specs.Writing.{first_link_to, near_end, entry_over, entry_by, entries_by, table_with, table_for}
use Rattle.class.specs.Sample.{tables_s}
use Rattle.class.specs.Class.{leaves_by, away_end, came_over, out_by, begun_at, ended_with, came_to, went_out, after_choice, step_on, steps_on, new_place, places_on, way_from, ending_from, stray_table, strange_table, class_refusal}

-- the tables written from S
abbrev pub made_s : ℕ → Table
made_s a = table_for S (node_at S.nodes a).station

-- the table of 9/n that sends everything out by a port, or nothing
abbrev pub sends : ℕ → ℕ → Table
sends n port = record { brigade = 9; node = record { 0 = n }; count = cond (eqb port 0) 0 1; entries = entry Everything port true ∷ replicate 31 no_entry }

-- S's four nodes by such tables; at the places past them one that is out of range
abbrev pub typed : ℕ → ℕ → ℕ → ℕ → ℕ → Table
typed p q r s a = cond (eqb a 0) (sends 1 p) (cond (eqb a 1) (sends 20 q) (cond (eqb a 2) (sends 21 r) (cond (eqb a 3) (sends 30 s) (sends 1024 99))))

-- to 9/30, port 5
abbrev pub quay : Address
quay = address_of 9 30 5

pub record Cases : Type 0 where
  -- by the written tables: from 9/1 by the first Hill; from 9/30 back the same way; at the start itself; to a node that the chart does not have
  pub made : (way_from S made_s quay 0 ≡ 0 ∷ 1 ∷ 3 ∷ []) × (ending_from S made_s quay 0 ≡ 1)
  pub returned : (way_from S made_s (address_of 9 1 2) 3 ≡ 3 ∷ 1 ∷ 0 ∷ []) × (ending_from S made_s (address_of 9 1 2) 3 ≡ 1)
  pub at_home : (way_from S made_s quay 3 ≡ 3 ∷ []) × (ending_from S made_s quay 3 ≡ 1)
  pub nowhere : (way_from S made_s (address_of 9 99 1) 0 ≡ 0 ∷ []) × (ending_from S made_s (address_of 9 99 1) 0 ≡ 2)
  -- the images of those tables
  pub images : table_image (made_s 0) ++ (table_image (made_s 1) ++ (table_image (made_s 2) ++ (table_image (made_s 3) ++ replicate 2352 0))) ≡ tables_s
  -- no entry at the first Hill
  pub no_route : (way_from S (typed 2 0 0 0) quay 0 ≡ 0 ∷ 1 ∷ []) × (ending_from S (typed 2 0 0 0) quay 0 ≡ 2)
  -- out by the port that it came in by is no route: 9/20 would send it back to 9/1
  pub not_back : (way_from S (typed 2 1 0 0) quay 0 ≡ 0 ∷ 1 ∷ []) × (ending_from S (typed 2 1 0 0) quay 0 ≡ 2)
  -- port 4 of 9/1 has a link that is off, port 9 none
  pub off_link : (way_from S (typed 4 0 0 0) quay 0 ≡ 0 ∷ []) × (ending_from S (typed 4 0 0 0) quay 0 ≡ 3)
  pub no_link : (way_from S (typed 2 9 0 0) quay 0 ≡ 0 ∷ 1 ∷ []) × (ending_from S (typed 2 9 0 0) quay 0 ≡ 3)
  -- round from 9/1 by both Hills
  pub round : (way_from S (typed 2 3 1 0) quay 0 ≡ 0 ∷ 1 ∷ 2 ∷ 0 ∷ []) × (ending_from S (typed 2 3 1 0) quay 0 ≡ 4)
  -- a step: over link 0 from port 2 of 9/1 into port 1 of 9/20; what has ended stays, and so it is with any other number
  pub step : step_on S made_s quay (begun_at 0) ≡ record { at = 1; arrival = record { 0 = 1 }; met = 3; ending = 0 }
  pub ended : step_on S made_s quay (ended_with 1 (begun_at 0)) ≡ ended_with 1 (begun_at 0)
  pub other : step_on S made_s quay (ended_with 9 (begun_at 0)) ≡ ended_with 9 (begun_at 0)
  pub in_by : (out_by S 0 (record { 0 = 2 }) ≡ some (record { node = 1; port = record { 0 = 1 } })) × (out_by S 0 (record { 0 = 4 }) ≡ none)
  -- the numbers in their order; a table past the nodes is not looked at
  pub taken : class_refusal S.nodes (typed 2 3 1 0) quay 0 (record { 0 = 0 }) ≡ 0
  pub table : class_refusal S.nodes (typed 64 3 1 0) (address_of 9 30 64) 4 (record { 0 = 64 }) ≡ 50
  pub start : class_refusal S.nodes (λ a. sends 1 2) (address_of 9 30 64) 4 (record { 0 = 64 }) ≡ 44
  pub strange : class_refusal S.nodes (λ a. sends 1 2) (address_of 9 30 64) 3 (record { 0 = 64 }) ≡ 95
  pub destination : (class_refusal S.nodes (typed 2 3 1 0) (address_of 9 30 64) 3 (record { 0 = 0 }) ≡ 51) × (class_refusal S.nodes (typed 2 3 1 0) quay 3 (record { 0 = 64 }) ≡ 51)

pub cases : Cases
unfolding S tables_s any_below first_from first_below element_at joined target_bytes entry_bytes table_image station_in_range in_range same_station entry_at is_own covers qualifies qualifies_at has_route out_port out_choice target_in_range entry_in_range stray_entry table_in_range call_in_range choose_of node_at link_at stands_at also only up_from links_from over tries routes unmet all_from all_routes has station_place goes_out goes_back far_end routes_between or_fewer fewest_of head_of first_link_to near_end entry_over entry_by entries_by table_with table_for leaves_by away_end came_over out_by begun_at ended_with came_to went_out after_choice step_on steps_on new_place places_on way_from ending_from stray_table strange_table class_refusal
cases =
    record {
      made = (refl, refl);
      returned = (refl, refl);
      at_home = (refl, refl);
      nowhere = (refl, refl);
      images = refl;
      no_route = (refl, refl);
      not_back = (refl, refl);
      off_link = (refl, refl);
      no_link = (refl, refl);
      round = (refl, refl);
      step = refl;
      ended = refl;
      other = refl;
      in_by = (refl, refl);
      taken = refl;
      table = refl;
      start = refl;
      strange = refl;
      destination = (refl, refl);
    }
