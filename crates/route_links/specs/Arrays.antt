-- The arrays that the trace keeps by value (document 01, "Routes and their order"), as a net: the two ends of each link as node places, and the passage of each
-- link (0 none, 1 both ways, 2 out, 3 back).
use Rattle.std.specs.Prelude.{ℕ, Bool, ◌&&◌, ◌||◌, cond, List, [], get_or, eqb, ltb}
use Rattle.std.proofs.Math.Option.{Option, none, some}
use Rattle.chart.specs.Values.{most_nodes}
use Rattle.route.specs.Route.{Net}

-- the node at a place, if it is a node's place
unfoldable pub node_place : ℕ → Option ℕ
node_place n = cond (ltb n most_nodes) (some n) none

-- the ways of which a link is passed from its first end to its second, and from its second to its first
unfoldable pub is_out : ℕ → Bool
is_out way = eqb way 1 || eqb way 2

unfoldable pub is_back : ℕ → Bool
is_back way = eqb way 1 || eqb way 3

-- the other end of a link from the node n
unfoldable pub other_end : List ℕ → ℕ → ℕ → Option ℕ
other_end e way n =
    cond (is_out way && eqb (get_or e 0 0) n) (node_place (get_or e 1 0))
    (cond (is_back way && eqb (get_or e 1 0) n) (node_place (get_or e 0 0))
    none)

-- the far end of link i from the node n, if there is such a link
unfoldable pub far_node : List (List ℕ) → List ℕ → ℕ → ℕ → ℕ → Option ℕ
far_node ends ways links i n = cond (ltb i links) (other_end (get_or ends i []) (get_or ways i 0) n) none

-- the net of the arrays
abbrev pub net : List (List ℕ) → List ℕ → ℕ → ℕ → Net
net ends ways links to = record { nodes = most_nodes; links = links; far = far_node ends ways links; goal = to }
