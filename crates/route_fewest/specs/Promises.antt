-- What the route with the fewest links is (document 02, Eight). proofs/Promises.antt has the theorems.
use Rattle.std.specs.Prelude.{ℕ, ◌<◌, ◌≤◌, ◌≡◌, ◌⊎◌, ◌↔◌, true, false, List, ◌∷◌, length}
use Rattle.std.proofs.Math.Option.{none, some}
use Rattle.route.specs.Route.{Net, Sound, RouteFrom, Before}
use Rattle.route_fewest.specs.Fewest.{fewest_from, near}

module _ (G : Net) where
  -- r is a route, no route has fewer links, and of those with as many it is the first
  pub record Fewest (a : ℕ) (r : List ℕ) : Type 0 where
    pub route : RouteFrom G a r
    pub fewest : (q : List ℕ) → RouteFrom G a q → length r ≤ length q
    pub first : (q : List ℕ) → RouteFrom G a q → length q ≡ length r → (q ≡ r) ⊎ Before r q

  -- the goal is k links away, and not fewer
  pub record Away (k a : ℕ) : Type 0 where
    pub within : near G k a ≡ true
    pub least : (j : ℕ) → j < k → near G j a ≡ false

-- the definition gives that route; it gives none exactly if there is no route
abbrev pub FewestIs : Type 0
FewestIs = (G : Net) → Sound G → (a : ℕ) (r : List ℕ) → (fewest_from G a ≡ some r) ↔ Fewest G a r

abbrev pub NoneIs : Type 0
NoneIs = (G : Net) → Sound G → (a : ℕ) → (fewest_from G a ≡ none) ↔ ((r : List ℕ) → RouteFrom G a r → ⊥)

-- it has as many links as the goal is away, and there is a route exactly if the goal is some number of links away
abbrev pub FewestAway : Type 0
FewestAway = (G : Net) → Sound G → (a : ℕ) (r : List ℕ) → Fewest G a r → Away G (length r) a

abbrev pub RouteAway : Type 0
RouteAway = (G : Net) → Sound G → (a : ℕ) → ((r : List ℕ) × RouteFrom G a r) ↔ ((k : ℕ) × Away G k a)

-- its rest is that route of the node that its first link leads to: who goes by first links goes by it
abbrev pub FewestRest : Type 0
FewestRest = (G : Net) → Sound G → (a i : ℕ) (r : List ℕ) → Fewest G a (i ∷ r) → (f : ℕ) × (G.far i a ≡ some f) × Fewest G f r
