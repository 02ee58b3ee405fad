-- The chart S of document 01 ("The printed sheet", "Cases at the edges"), as bytes and as values, and in the directed form of document 02, Five.
use Rattle.std.specs.Prelude.{ℕ, ◌-◌, List, [], ◌∷◌, ◌++◌, Bool, true, false, length, replicate}
use Rattle.address.specs.declared.Station.{Station}
use Rattle.chart.specs.declared.ChartNode.{ChartNode}
use Rattle.chart.specs.declared.Link.{Link}
use Rattle.chart.specs.declared.Chart.{Chart}
use Rattle.chart.specs.Values.{no_node, no_link}

-- brigade 9, node n
abbrev pub station_s : ℕ → Station
station_s n = record { brigade = 9; node = record { 0 = n } }

-- node n of brigade 9 with its label
abbrev pub node_s : ℕ → List ℕ → ChartNode
node_s n label = record { station = station_s n; length = length label; label = label ++ replicate (24 - length label) 0 }

-- from node a, port p to node b, port q, in a direction; and both ways
abbrev pub way_s : ℕ → ℕ → ℕ → ℕ → Bool → ℕ → Link
way_s a p b q on direction =
    record {
      a = record { brigade = 9; node = record { 0 = a }; port = record { 0 = p } };
      b = record { brigade = 9; node = record { 0 = b }; port = record { 0 = q } };
      on = on;
      direction = direction;
    }

abbrev pub link_s : ℕ → ℕ → ℕ → ℕ → Bool → Link
link_s a p b q on = way_s a p b q on 0

-- "Control", "Hill", "Quay"
abbrev pub control : List ℕ
control = 67 ∷ 111 ∷ 110 ∷ 116 ∷ 114 ∷ 111 ∷ 108 ∷ []

abbrev pub hill : List ℕ
hill = 72 ∷ 105 ∷ 108 ∷ 108 ∷ []

abbrev pub quay : List ℕ
quay = 81 ∷ 117 ∷ 97 ∷ 121 ∷ []

-- S itself
unfoldable pub S : Chart
S =
    record {
      nodes = record { count = 4; items = node_s 1 control ∷ node_s 20 hill ∷ node_s 21 hill ∷ node_s 30 quay ∷ replicate 12 no_node };
      links = record {
        count = 6;
        form = 2;
        items = link_s 1 2 20 1 true ∷ link_s 1 3 21 1 true ∷ link_s 20 2 30 1 true ∷ link_s 21 2 30 2 true ∷ link_s 20 3 21 3 true ∷ link_s 1 4 30 3 false ∷ replicate 42 no_link;
      };
      from = station_s 1;
      to = station_s 30;
    }

-- its bytes: four nodes, of which the second and the third have one label, Hill; six links, the last one off; the question, from 9/1 to 9/30
unfoldable pub bytes_s : List ℕ
bytes_s =
    1 ∷ 0 ∷ 10 ∷ 9 ∷ 0 ∷ 1 ∷ 67 ∷ 111 ∷ 110 ∷ 116 ∷ 114 ∷ 111 ∷ 108 ∷
    1 ∷ 0 ∷ 7 ∷ 9 ∷ 0 ∷ 20 ∷ 72 ∷ 105 ∷ 108 ∷ 108 ∷
    1 ∷ 0 ∷ 7 ∷ 9 ∷ 0 ∷ 21 ∷ 72 ∷ 105 ∷ 108 ∷ 108 ∷
    1 ∷ 0 ∷ 7 ∷ 9 ∷ 0 ∷ 30 ∷ 81 ∷ 117 ∷ 97 ∷ 121 ∷
    2 ∷ 0 ∷ 9 ∷ 9 ∷ 0 ∷ 1 ∷ 2 ∷ 9 ∷ 0 ∷ 20 ∷ 1 ∷ 1 ∷
    2 ∷ 0 ∷ 9 ∷ 9 ∷ 0 ∷ 1 ∷ 3 ∷ 9 ∷ 0 ∷ 21 ∷ 1 ∷ 1 ∷
    2 ∷ 0 ∷ 9 ∷ 9 ∷ 0 ∷ 20 ∷ 2 ∷ 9 ∷ 0 ∷ 30 ∷ 1 ∷ 1 ∷
    2 ∷ 0 ∷ 9 ∷ 9 ∷ 0 ∷ 21 ∷ 2 ∷ 9 ∷ 0 ∷ 30 ∷ 2 ∷ 1 ∷
    2 ∷ 0 ∷ 9 ∷ 9 ∷ 0 ∷ 20 ∷ 3 ∷ 9 ∷ 0 ∷ 21 ∷ 3 ∷ 1 ∷
    2 ∷ 0 ∷ 9 ∷ 9 ∷ 0 ∷ 1 ∷ 4 ∷ 9 ∷ 0 ∷ 30 ∷ 3 ∷ 0 ∷
    3 ∷ 0 ∷ 6 ∷ 9 ∷ 0 ∷ 1 ∷ 9 ∷ 0 ∷ 30 ∷
    []

-- S with its links in the directed form, as values and as bytes: every link both ways
unfoldable pub S' : Chart
S' =
    record {
      nodes = S.nodes;
      links = record { count = 6; form = 4; items = S.links.items };
      from = station_s 1;
      to = station_s 30;
    }

unfoldable pub bytes_s' : List ℕ
bytes_s' =
    1 ∷ 0 ∷ 10 ∷ 9 ∷ 0 ∷ 1 ∷ 67 ∷ 111 ∷ 110 ∷ 116 ∷ 114 ∷ 111 ∷ 108 ∷
    1 ∷ 0 ∷ 7 ∷ 9 ∷ 0 ∷ 20 ∷ 72 ∷ 105 ∷ 108 ∷ 108 ∷
    1 ∷ 0 ∷ 7 ∷ 9 ∷ 0 ∷ 21 ∷ 72 ∷ 105 ∷ 108 ∷ 108 ∷
    1 ∷ 0 ∷ 7 ∷ 9 ∷ 0 ∷ 30 ∷ 81 ∷ 117 ∷ 97 ∷ 121 ∷
    4 ∷ 0 ∷ 10 ∷ 9 ∷ 0 ∷ 1 ∷ 2 ∷ 9 ∷ 0 ∷ 20 ∷ 1 ∷ 1 ∷ 0 ∷
    4 ∷ 0 ∷ 10 ∷ 9 ∷ 0 ∷ 1 ∷ 3 ∷ 9 ∷ 0 ∷ 21 ∷ 1 ∷ 1 ∷ 0 ∷
    4 ∷ 0 ∷ 10 ∷ 9 ∷ 0 ∷ 20 ∷ 2 ∷ 9 ∷ 0 ∷ 30 ∷ 1 ∷ 1 ∷ 0 ∷
    4 ∷ 0 ∷ 10 ∷ 9 ∷ 0 ∷ 21 ∷ 2 ∷ 9 ∷ 0 ∷ 30 ∷ 2 ∷ 1 ∷ 0 ∷
    4 ∷ 0 ∷ 10 ∷ 9 ∷ 0 ∷ 20 ∷ 3 ∷ 9 ∷ 0 ∷ 21 ∷ 3 ∷ 1 ∷ 0 ∷
    4 ∷ 0 ∷ 10 ∷ 9 ∷ 0 ∷ 1 ∷ 4 ∷ 9 ∷ 0 ∷ 30 ∷ 3 ∷ 0 ∷ 0 ∷
    3 ∷ 0 ∷ 6 ∷ 9 ∷ 0 ∷ 1 ∷ 9 ∷ 0 ∷ 30 ∷
    []
