-- The first link by a search backwards from the goal, and over the arrays and the table that are kept of a net.
use Rattle.std.specs.Prelude.{ℕ, zero, suc, ◌+◌, ◌<◌, min, ◌≡◌, ◌&&◌, cond, List, ltb, get_or}
use Rattle.std.proofs.Math.Option.{Option, none, some}
use Rattle.lists.specs.Places.{any_below, first_below, row}
use Rattle.chart.specs.Values.{most_nodes, most_links}
use Rattle.route.specs.Route.{Net, Sound}
use Rattle.route_links.specs.Arrays.{net}
use Rattle.route_links.specs.Sets.{has}
use Rattle.route_links.specs.ByNode.{from_row}
use Rattle.route_links.specs.Private.{net_of}
use Rattle.route_fewest.specs.declared.Spread.{Spread}
use Rattle.route_fewest.specs.Fewest.{first_link, leads_to, some_leads, near}
use Rattle.route_fewest.specs.Promises.{Away}

-- ---- the link to pass next

-- the first link that leads to a node at most k links away, for the first of the n numbers k, k + 1, .. for which there is one
unfoldable pub hop_from : Net → ℕ → ℕ → ℕ → Option ℕ
hop_from G a k zero = none
hop_from G a k (suc n) = cond (some_leads G (near G k) a) (some (first_below (leads_to G (near G k) a) G.links)) (hop_from G a (suc k) n)

-- the link to pass next, for a node that is not the goal
unfoldable pub hop : Net → ℕ → Option ℕ
hop G a = hop_from G a 0 G.nodes

-- it is the first link of the route with the fewest links
abbrev pub FirstIsHop : Type 0
FirstIsHop = (G : Net) → Sound G → (a : ℕ) → a < G.nodes → ¬ (a ≡ G.goal) → first_link G a ≡ hop G a

-- link i is there, leads from a to f, and f is k links away
pub record Nearer (G : Net) (k a i f : ℕ) : Type 0 where
  pub there : i < G.links
  pub far : G.far i a ≡ some f
  pub away : Away G k f

-- it leads to a node that is one link nearer
abbrev pub HopFalls : Type 0
HopFalls = (G : Net) → Sound G → (a : ℕ) → a < G.nodes → (k : ℕ) → Away G (suc k) a → (i : ℕ) × (f : ℕ) × (first_link G a ≡ some i) × Nearer G k a i f

-- ---- over a table

-- the net that a table holds, with the node at a place as the goal
abbrev pub toward : List ℕ → ℕ → Net
toward t to = record { nodes = most_nodes; links = most_links; far = (net_of t).far; goal = to }

-- a link's place; 48 for none
unfoldable pub link_place : Option ℕ → ℕ
link_place none = most_links
link_place (some i) = i

-- the links into some nodes, and the nodes from which these lead
pub record SpreadOf (t : List ℕ) (front : ℕ) (r : Spread) : Type 0 where
  pub links : (i : ℕ) → has r.links i ≡ any_below (λ n. has front n && has (get_or t n 0) i) most_nodes
  pub nodes : (a : ℕ) → a < most_nodes → has r.nodes a ≡ any_below (λ n. has front n && has (get_or t (from_row + n) 0) a) most_nodes

-- ---- over the arrays

-- the first link from a node place to another; none from what is no node's place
unfoldable pub first_link_over : List (List ℕ) → List ℕ → ℕ → ℕ → ℕ → Option ℕ
first_link_over ends ways links from to = cond (ltb from most_nodes) (first_link (net ends ways links to) from) none

-- for each of the first so many node places, in 16 places
unfoldable pub first_links_over : List (List ℕ) → List ℕ → ℕ → ℕ → ℕ → List ℕ
first_links_over ends ways links nodes from = row most_nodes most_links (λ to. link_place (first_link_over ends ways links from to)) (min nodes most_nodes)
