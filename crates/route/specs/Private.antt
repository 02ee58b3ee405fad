-- The steps by which routes are found one at a time: they are held to the list of all routes.
use Rattle.std.specs.Prelude.{Bool, not, ◌&&◌, false, List, [], ◌∷◌, ℕ, eqb, ltb}
use Rattle.std.proofs.Math.Option.{Option, none, some}
use Rattle.route.specs.Route.{Net, also}
use Rattle.route.specs.All.{links_from, tries, all_from, Finding, first_of}

-- the least route from a node by a link at place j or later
unfoldable pub least_try : Net → ℕ → (ℕ → Bool) → ℕ → Finding
least_try G at met j = first_of (tries G (λ f. all_from G f (also f met)) at met (links_from G j))

-- the least route from a node
unfoldable pub least_from : Net → ℕ → (ℕ → Bool) → Finding
least_from G at met = first_of (all_from G at met)

-- the far end is there, is not met, and passes the test
unfoldable pub goes_on : (ℕ → Bool) → (ℕ → Bool) → Option ℕ → Bool
goes_on met next none = false
goes_on met next (some f) = not (met f) && next f

-- the test for a route
unfoldable pub is_route : Net → ℕ → (ℕ → Bool) → List ℕ → Bool
is_route G at met [] = eqb at G.goal
is_route G at met (i ∷ r) = not (eqb at G.goal) && (ltb i G.links && goes_on met (λ f. is_route G f (also f met) r) (G.far i at))
