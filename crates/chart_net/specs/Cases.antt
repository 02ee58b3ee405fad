-- The far ends of S's links and its routes, and what is left of them where a link goes one way only.
use Rattle.std.specs.Prelude.{ℕ, ◌≡◌, refl, true, false, [], ◌∷◌, set}
use Rattle.std.proofs.Math.Option.{Option, none, some}
use Rattle.lists.specs.Places.{first_from, first_below, element_at}
use Rattle.address.specs.Address.{same_station}
use Rattle.chart.specs.declared.Chart.{Chart}
use Rattle.chart.specs.Values.{directed, node_at, link_at, stands_at}
use Rattle.chart.specs.Sample.{station_s, way_s, S}
use Rattle.route.specs.Route.{also, only}
use Rattle.route.specs.All.{up_from, links_from, over, tries, routes, unmet, all_from, all_routes}
use Rattle.chart_net.specs.Net.{station_place, goes_out, goes_back, far_end, routes_between, start, routes_of}
use Rattle.chart_net.specs.Private.{passage_of}

-- S with its link 0 in a direction
abbrev pub turned : ℕ → Chart
turned d =
    record {
      nodes = S.nodes;
      links = record { count = 6; form = directed; items = set S.links.items 0 (way_s 1 2 20 1 true d) };
      from = station_s 1;
      to = station_s 30;
    }

-- the far end of its link 0 from the node at a place, and the way that it is kept with
abbrev pub far_turned : ℕ → ℕ → Option ℕ
far_turned d a = far_end S.nodes (turned d).links 0 a

abbrev pub way_turned : ℕ → ℕ
way_turned d = passage_of (way_s 1 2 20 1 true d)

pub record Cases : Type 0 where
  -- link 0 joins the nodes 0 and 1, either way; it has no end at node 2; link 5 is off; there is no link 6
  pub there : far_end S.nodes S.links 0 0 ≡ some 1
  pub back : far_end S.nodes S.links 0 1 ≡ some 0
  pub elsewhere : far_end S.nodes S.links 0 2 ≡ none
  pub off : far_end S.nodes S.links 5 0 ≡ none
  pub past : far_end S.nodes S.links 6 0 ≡ none
  -- out it leads from node 0 to node 1 alone, back from node 1 to node 0 alone; 3 is no direction
  pub out_only : (far_turned 1 0 ≡ some 1) × (far_turned 1 1 ≡ none)
  pub back_only : (far_turned 2 0 ≡ none) × (far_turned 2 1 ≡ some 0)
  pub no_direction : (far_turned 3 0 ≡ none) × (far_turned 3 1 ≡ none)
  pub ways : (way_turned 0 ≡ 1) × (way_turned 1 ≡ 2) × (way_turned 2 ≡ 3) × (way_turned 3 ≡ 0) × (way_turned 255 ≡ 0)
  pub off_way : passage_of (way_s 1 2 20 1 false 2) ≡ 0
  -- the second Hill is another node than the first
  pub first_hill : station_place S.nodes (station_s 20) ≡ 1
  pub second_hill : station_place S.nodes (station_s 21) ≡ 2
  pub nowhere : station_place S.nodes (station_s 99) ≡ 4
  pub begins : start S ≡ 0
  pub asked : routes_of S ≡ (0 ∷ 2 ∷ []) ∷ (0 ∷ 4 ∷ 3 ∷ []) ∷ (1 ∷ 3 ∷ []) ∷ (1 ∷ 4 ∷ 2 ∷ []) ∷ []
  -- every route by link 0 passes it out: they stay where it goes out only, and are gone where it goes back only
  pub asked_out : routes_of (turned 1) ≡ (0 ∷ 2 ∷ []) ∷ (0 ∷ 4 ∷ 3 ∷ []) ∷ (1 ∷ 3 ∷ []) ∷ (1 ∷ 4 ∷ 2 ∷ []) ∷ []
  pub asked_back : routes_of (turned 2) ≡ (1 ∷ 3 ∷ []) ∷ (1 ∷ 4 ∷ 2 ∷ []) ∷ []
  pub hills : routes_between S (station_s 20) (station_s 21) ≡ (0 ∷ 1 ∷ []) ∷ (2 ∷ 3 ∷ []) ∷ (4 ∷ []) ∷ []
  pub itself : routes_between S (station_s 20) (station_s 20) ≡ [] ∷ []

pub cases : Cases
unfolding S first_from first_below element_at same_station node_at link_at stands_at also only up_from links_from over tries routes unmet all_from all_routes station_place goes_out goes_back far_end routes_between start routes_of passage_of
cases =
    record {
      there = refl;
      back = refl;
      elsewhere = refl;
      off = refl;
      past = refl;
      out_only = (refl, refl);
      back_only = (refl, refl);
      no_direction = (refl, refl);
      ways = (refl, refl, refl, refl, refl);
      off_way = refl;
      first_hill = refl;
      second_hill = refl;
      nowhere = refl;
      begins = refl;
      asked = refl;
      asked_out = refl;
      asked_back = refl;
      hills = refl;
      itself = refl;
    }
