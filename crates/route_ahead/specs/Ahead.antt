-- The look ahead (document 02, Eleven): which links begin a route on from a node, without the nodes already met.
use Rattle.std.specs.Prelude.{ℕ, ◌<◌, ◌≡◌, Bool, true, false, ◌↔◌, List, ◌∷◌}
use Rattle.std.proofs.Math.Option.{some}
use Rattle.chart.specs.Values.{most_nodes}
use Rattle.route.specs.Route.{Net, IsRoute, RouteFrom}
use Rattle.route_links.specs.Sets.{has}
use Rattle.route_links.specs.Private.{net_of, Walkable, met_of}

-- a route on from the node, with some nodes met, begins with link i
abbrev pub Begins : Net → ℕ → (ℕ → Bool) → ℕ → Type 0
Begins G at met i = (r : List ℕ) × IsRoute G at met (i ∷ r)

-- of these links, those that begin a route: no such link is cut, and every dead end is
pub record Worth (G : Net) (at : ℕ) (met : ℕ → Bool) (links kept : ℕ) : Type 0 where
  pub among : (i : ℕ) → has kept i ≡ true → has links i ≡ true
  pub begins : (i : ℕ) → has kept i ≡ true → Begins G at met i
  pub all : (i : ℕ) → has links i ≡ true → Begins G at met i → has kept i ≡ true

-- what a look ahead is asked: these links lead on over the table from the node at, which is met and not the goal, to nodes that are not met; nor
-- is the goal met
pub record Asked (t : List ℕ) (at gone links : ℕ) : Type 0 where
  pub table : Walkable t
  pub node : at < most_nodes
  pub met : met_of gone at ≡ true
  pub other : at ≡ (net_of t).goal → ⊥
  pub goal : met_of gone (net_of t).goal ≡ false
  pub opens : (i : ℕ) → has links i ≡ true → (f : ℕ) × (((net_of t).far i at ≡ some f) × (met_of gone f ≡ false))

-- what it answers; and where one of the links is known to begin a route
abbrev pub LooksAhead : List ℕ → ℕ → ℕ → ℕ → Type 0
LooksAhead t gone links kept = (at : ℕ) → Asked t at gone links → Worth (net_of t) at (met_of gone) links kept

abbrev pub LooksOn : List ℕ → ℕ → ℕ → ℕ → Type 0
LooksOn t gone links kept =
    (at : ℕ) → Asked t at gone links → (i : ℕ) → has links i ≡ true → Begins (net_of t) at (met_of gone) i → Worth (net_of t) at (met_of gone) links kept

-- whether a route leads from a node to the goal
abbrev pub Reaches : List ℕ → ℕ → Bool → Type 0
Reaches t from answer = Walkable t → from < most_nodes → (answer ≡ true) ↔ ((r : List ℕ) × RouteFrom (net_of t) from r)
