-- All routes in a list that can be computed, and the first and the next in it.
use Rattle.std.specs.Prelude.{Bool, true, false, cond, ◌&&◌, List, [], ◌∷◌, ◌++◌, map, ℕ, zero, suc, ◌-◌, eqb}
use Rattle.std.proofs.Math.Option.{Option, none, some}
use Rattle.route.specs.Route.{Net, also, only}

-- n places from j on
unfoldable pub up_from : ℕ → ℕ → List ℕ
up_from j zero = []
up_from j (suc n) = j ∷ up_from (suc j) n

-- the link places from i on
unfoldable pub links_from : Net → ℕ → List ℕ
links_from G i = up_from i (G.links - i)

-- the routes that begin with link i, whose far end is given: none where it is met; `next f` are those on from f
unfoldable pub over : (ℕ → List (List ℕ)) → (ℕ → Bool) → ℕ → Option ℕ → List (List ℕ)
over next met i none = []
over next met i (some f) = cond (met f) [] (map (λ r. i ∷ r) (next f))

-- the routes from a node that begin with one of these links, the links' order first
unfoldable pub tries : Net → (ℕ → List (List ℕ)) → ℕ → (ℕ → Bool) → List ℕ → List (List ℕ)
tries G next at met [] = []
tries G next at met (i ∷ ls) = over next met i (G.far i at) ++ tries G next at met ls

-- the routes from a node that have at most k links
unfoldable pub routes : Net → ℕ → ℕ → (ℕ → Bool) → List (List ℕ)
routes G zero at met = elim (eqb at G.goal) [ true ↦ [] ∷ [] | false ↦ [] ]
routes G (suc k) at met =
    elim (eqb at G.goal) [ true ↦ [] ∷ [] | false ↦ tries G (λ f. routes G k f (also f met)) at met (links_from G 0) ]

-- how many of the nodes below n are not met
unfoldable pub unmet : ℕ → (ℕ → Bool) → ℕ
unmet zero met = 0
unmet (suc n) met = cond (met n) (unmet n met) (suc (unmet n met))

-- all routes on from a node: each link comes to a node that was not met, so that there are no more links than such nodes
unfoldable pub all_from : Net → ℕ → (ℕ → Bool) → List (List ℕ)
all_from G at met = routes G (unmet G.nodes met) at met

-- all routes from a node to the goal
unfoldable pub all_routes : Net → ℕ → List (List ℕ)
all_routes G a = all_from G a (only a)

-- what is said when a route is asked for: a route, that there are no more, or that what was given is none
pub data Finding : Type 0 where
  route : List ℕ → Finding
  no_more : Finding
  no_route : Finding

-- the first of these routes
unfoldable pub first_of : List (List ℕ) → Finding
first_of [] = no_more
first_of (r ∷ l) = route r

-- the two have the same links
unfoldable pub same_links : List ℕ → List ℕ → Bool
same_links [] [] = true
same_links [] (j ∷ s) = false
same_links (i ∷ r) [] = false
same_links (i ∷ r) (j ∷ s) = eqb i j && same_links r s

-- the one that follows r among these routes
unfoldable pub next_of : List (List ℕ) → List ℕ → Finding
next_of [] r = no_route
next_of (s ∷ l) r = elim (same_links s r) [ true ↦ first_of l | false ↦ next_of l r ]
