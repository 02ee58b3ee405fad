-- The links of a net kept beside their nodes (document 02, Ten): for each node the links by which one can go on from it, and those by which one comes to it.
use Rattle.std.specs.Prelude.{ℕ, ◌+◌, ◌<◌, ◌≡◌, Bool, true, false, not, ◌&&◌, List, eqb, length, get_or}
use Rattle.std.proofs.Math.Option.{Option, none, some}
use Rattle.lists.specs.Places.{any_below}
use Rattle.chart.specs.Values.{most_nodes, most_links}
use Rattle.route.specs.Route.{Net}
use Rattle.route_links.specs.Sets.{where_from, SetOf}

-- the far end of a link is another node than a, at which one stands
abbrev pub other_than : ℕ → Option ℕ → Bool
other_than a none = false
other_than a (some f) = not (eqb f a)

-- the far end of a link is the node f
abbrev pub is_node : ℕ → Option ℕ → Bool
is_node f none = false
is_node f (some g) = eqb g f

-- one can go on from a by link i: to another node, as no route meets one twice
unfoldable pub leads_out : Net → ℕ → ℕ → Bool
leads_out G a i = other_than a (G.far i a)

-- one comes to f by link i, from another node
unfoldable pub leads_into : Net → ℕ → ℕ → Bool
leads_into G f i = any_below (λ a. is_node f (G.far i a) && not (eqb a f)) G.nodes

-- these links, in order of place
unfoldable pub links_out : Net → ℕ → List ℕ
links_out G a = where_from (leads_out G a) 0 G.links

unfoldable pub links_into : Net → ℕ → List ℕ
links_into G f = where_from (leads_into G f) 0 G.links

-- some link leads from a to f, another node
unfoldable pub joins : Net → ℕ → ℕ → Bool
joins G f a = any_below (λ i. is_node f (G.far i a)) G.links && not (eqb a f)

-- the nodes from which one comes to f by one link, in order of place (document 02, Eleven)
unfoldable pub nodes_into : Net → ℕ → List ℕ
nodes_into G f = where_from (joins G f) 0 G.nodes

-- the table's rows: a word for each node with the links into it, one with the links out of it, a number for each link, the goal, and a word for each node with
-- the nodes from which one comes to it
abbrev pub out_row : ℕ
out_row = most_nodes

abbrev pub sum_row : ℕ
sum_row = out_row + most_nodes

abbrev pub goal_place : ℕ
goal_place = sum_row + most_links

abbrev pub from_row : ℕ
from_row = goal_place + 1

abbrev pub table_size : ℕ
table_size = from_row + most_nodes

-- the table of a net. A link's number is the sum of its two ends: less the one that one stands at, it is the other
pub record ByNode (G : Net) (t : List ℕ) : Type 0 where
  pub size : length t ≡ table_size
  pub into : (f : ℕ) → f < most_nodes → SetOf (links_into G f) (get_or t f 0)
  pub out : (a : ℕ) → a < most_nodes → SetOf (links_out G a) (get_or t (out_row + a) 0)
  pub sum : (i a f : ℕ) → a < most_nodes → G.far i a ≡ some f → leads_out G a i ≡ true → get_or t (sum_row + i) 0 ≡ a + f
  pub unused : (i : ℕ) → ((a : ℕ) → a < most_nodes → leads_out G a i ≡ false) → i < most_links → get_or t (sum_row + i) 0 ≡ 0
  pub goal : get_or t goal_place 0 ≡ G.goal
  pub from : (f : ℕ) → f < most_nodes → SetOf (nodes_into G f) (get_or t (from_row + f) 0)
