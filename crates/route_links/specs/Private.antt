-- How the table is built, link by link; and the table as a net, with what a walk over it stands on.
use Rattle.std.specs.Prelude.{◌≡◌, ◌⊎◌, Bool, true, false, not, cond, ◌&&◌, List, ◌∷◌, ℕ, suc, ◌+◌, ◌-◌, ◌*◌, ◌^◌, ◌%◌, ◌<◌, ◌≤◌, eqb, ltb, get_or, set, length}
use Rattle.std.proofs.Math.Option.{Option, none, some}
use Rattle.std.specs.Int.Bits.{bit_and, bit_or, bit_xor}
use Rattle.chart.specs.Values.{most_nodes, most_links}
use Rattle.route.specs.Route.{Net, also, IsRoute}
use Rattle.route.specs.All.{tries, unmet, all_from, all_routes}
use Rattle.route_links.specs.Sets.{has, places_in}
use Rattle.route_links.specs.ByNode.{out_row, sum_row, goal_place, from_row, table_size}

-- ---- how the table is built

-- the set of the place i alone, as a word of 64 digits
abbrev pub alone : ℕ → ℕ
alone i = 1 * 2 ^ i % 18446744073709551616

-- the place i is put into the set at place p
unfoldable pub put_in : List ℕ → ℕ → ℕ → List ℕ
put_in t p i = set t p (bit_or (get_or t p 0) (alone i))

-- link i leads from a to b: into b, out of a, from a to b, and the sum of the two
unfoldable pub linked : List ℕ → ℕ → ℕ → ℕ → List ℕ
linked t i a b = set (put_in (put_in (put_in t b i) (out_row + a) i) (from_row + b) a) (sum_row + i) (a + b)

-- it is passed so, and both are places of nodes, and two
unfoldable pub leads_on : ℕ → ℕ → Bool → Bool
leads_on a b passed = passed && (ltb a most_nodes && (ltb b most_nodes && not (eqb a b)))

-- only such a link is kept
unfoldable pub lead : List ℕ → ℕ → ℕ → ℕ → Bool → List ℕ
lead t i a b passed = cond (leads_on a b passed) (linked t i a b) t

-- what the table holds of link i from a to f
pub record Kept (t : List ℕ) (i a f : ℕ) : Type 0 where
  pub place : i < most_links
  pub near : a < most_nodes
  pub far : f < most_nodes
  pub from : has (get_or t (out_row + a) 0) i ≡ true
  pub to : has (get_or t f 0) i ≡ true
  pub beside : has (get_or t (from_row + f) 0) a ≡ true
  pub sum : get_or t (sum_row + i) 0 ≡ a + f

-- the table holds these links and no others
pub record Built (R : ℕ → ℕ → ℕ → Type 0) (t : List ℕ) : Type 0 where
  pub size : length t ≡ table_size
  pub small : (n : ℕ) → n < sum_row → get_or t n 0 < 2 ^ most_links
  pub few : (f : ℕ) → f < most_nodes → get_or t (from_row + f) 0 < 2 ^ most_nodes
  pub ins : (i f : ℕ) → f < most_nodes → has (get_or t f 0) i ≡ true → (a : ℕ) × R i a f
  pub outs : (i a : ℕ) → a < most_nodes → has (get_or t (out_row + a) 0) i ≡ true → (f : ℕ) × R i a f
  pub froms : (a f : ℕ) → f < most_nodes → has (get_or t (from_row + f) 0) a ≡ true → (i : ℕ) × R i a f
  pub leads : (i a f : ℕ) → R i a f → Kept t i a f
  pub unused : (i : ℕ) → i < most_links → ((a f : ℕ) → R i a f → ⊥) → get_or t (sum_row + i) 0 ≡ 0

-- link i, one of the first n, leads from the node a to another, f
pub record Usable (G : Net) (n i a f : ℕ) : Type 0 where
  pub below : i < n
  pub leads : G.far i a ≡ some f
  pub apart : a ≡ f → ⊥
  pub node : a < most_nodes

-- ---- the table as a net

-- the far end f of a link that is there
unfoldable pub far_if : Bool → ℕ → Option ℕ
far_if true f = some f
far_if false f = none

-- the net that a table holds
unfoldable pub net_of : List ℕ → Net
net_of t =
    record {
      nodes = most_nodes;
      links = most_links;
      far = λ i a. far_if (has (get_or t (out_row + a) 0) i && ltb a most_nodes) (get_or t (sum_row + i) 0 - a);
      goal = get_or t goal_place 0;
    }

-- what the table says of a link i of its net that leads from a to f
pub record Leads (t : List ℕ) (i a f : ℕ) : Type 0 where
  pub kept : Kept t i a f
  pub apart : a ≡ f → ⊥

-- the table is one that a walk can go by: each of its sets says what its net says, and a link has but two ends
pub record Walkable (t : List ℕ) : Type 0 where
  pub small : (n : ℕ) → n < sum_row → get_or t n 0 < 2 ^ most_links
  pub few : (f : ℕ) → f < most_nodes → get_or t (from_row + f) 0 < 2 ^ most_nodes
  pub leads : (i a f : ℕ) → (net_of t).far i a ≡ some f → Leads t i a f
  pub outs : (i a : ℕ) → a < most_nodes → has (get_or t (out_row + a) 0) i ≡ true → (f : ℕ) × ((net_of t).far i a ≡ some f)
  pub ins : (i f : ℕ) → f < most_nodes → has (get_or t f 0) i ≡ true → (a : ℕ) × ((net_of t).far i a ≡ some f)
  pub froms : (a f : ℕ) → f < most_nodes → has (get_or t (from_row + f) 0) a ≡ true → (i : ℕ) × ((net_of t).far i a ≡ some f)
  pub ends : (i a f b g : ℕ) → (net_of t).far i a ≡ some f → (net_of t).far i b ≡ some g → (g ≡ a) ⊎ (g ≡ f)

-- the table has the routes of the net G
pub record Holds (G : Net) (t : List ℕ) : Type 0 where
  pub walkable : Walkable t
  pub same : (a : ℕ) → a < most_nodes → all_routes (net_of t) a ≡ all_routes G a

-- ---- a walk over it

-- the nodes met: digits 48 to 63 of the word of what is gone
unfoldable pub met_of : ℕ → ℕ → Bool
met_of gone n = has gone (most_links + n)

-- digits 0 to 47: from a node that is not met, a link is gone exactly if it leads to one that is
unfoldable pub Gone : Net → ℕ → Type 0
Gone G gone = (i a f : ℕ) → G.far i a ≡ some f → met_of gone a ≡ false → has gone i ≡ met_of gone f

-- these links are at place j or later and lead from the node at to nodes that are not met, and each route from there by a link at place j or later begins
-- with one of them
pub record Covers (G : Net) (links at : ℕ) (met : ℕ → Bool) (j : ℕ) : Type 0 where
  pub above : (i : ℕ) → has links i ≡ true → j ≤ i
  pub opens : (i : ℕ) → has links i ≡ true → (f : ℕ) × ((G.far i at ≡ some f) × (met f ≡ false))
  pub keeps : (i : ℕ) (r : List ℕ) → j ≤ i → IsRoute G at met (i ∷ r) → has links i ≡ true

-- what is gone once the node f is met too: the links into it, and f
abbrev pub gone_after : List ℕ → ℕ → ℕ → ℕ
gone_after t gone f = bit_or (bit_or gone (get_or t f 0)) (alone (most_links + f))

-- the links on from the node f that are not gone
abbrev pub links_on : List ℕ → ℕ → ℕ → ℕ
links_on t gone f = bit_xor (get_or t (out_row + f) 0) (bit_and (get_or t (out_row + f) 0) gone)

-- the routes on from the node f, which is not met yet
unfoldable pub routes_on : List ℕ → ℕ → ℕ → List (List ℕ)
routes_on t f gone = all_from (net_of t) f (also f (met_of gone))

-- the routes on from the node at, which is met, by one of these links
unfoldable pub routes_by : List ℕ → ℕ → ℕ → ℕ → List (List ℕ)
routes_by t at gone links = tries (net_of t) (λ f. routes_on t f gone) at (met_of gone) (places_in links)

-- where one stands: at the node f, which is not met yet, nor is the goal, after d links
pub record Standing (t : List ℕ) (f gone d : ℕ) : Type 0 where
  pub table : Walkable t
  pub node : f < most_nodes
  pub fresh : met_of gone f ≡ false
  pub goal : met_of gone (net_of t).goal ≡ false
  pub known : Gone (net_of t) gone
  pub depth : d + unmet most_nodes (met_of gone) ≤ most_nodes

-- where a walk stands: a route leads on from there, so that no step was in vain
pub record OnRoute (t : List ℕ) (f gone d : ℕ) : Type 0 where
  pub stands : Standing t f gone d
  pub leads : (r : List ℕ) × IsRoute (net_of t) f (also f (met_of gone)) r

-- what a walk chooses from at the node at, which is met: each of these links begins a route, so that no step will be in vain
pub record Choosing (t : List ℕ) (at gone links d : ℕ) : Type 0 where
  pub table : Walkable t
  pub node : at < most_nodes
  pub known : Gone (net_of t) gone
  pub begins : (i : ℕ) → has links i ≡ true → (r : List ℕ) × IsRoute (net_of t) at (met_of gone) (i ∷ r)
  pub depth : suc (d + unmet most_nodes (met_of gone)) ≤ most_nodes
  pub small : links < 2 ^ most_links
