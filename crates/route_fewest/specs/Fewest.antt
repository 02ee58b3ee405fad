-- Routes with the fewest links (document 02, Eight), and how far the goal is from a node. Links are passed in their direction only.
use Rattle.std.specs.Prelude.{ℕ, zero, suc, Bool, false, cond, ◌||◌, List, [], ◌∷◌, eqb, ltb, length}
use Rattle.std.proofs.Math.Option.{Option, none, some}
use Rattle.lists.specs.Places.{any_below}
use Rattle.route.specs.Route.{Net}
use Rattle.route.specs.All.{all_routes}

-- r, unless the other has fewer links
unfoldable pub or_fewer : List ℕ → Option (List ℕ) → List ℕ
or_fewer r none = r
or_fewer r (some s) = cond (ltb (length s) (length r)) s r

-- of these routes those with the fewest links, and of those the first
unfoldable pub fewest_of : List (List ℕ) → Option (List ℕ)
fewest_of [] = none
fewest_of (r ∷ l) = some (or_fewer r (fewest_of l))

-- the first link of a route, if there is one
unfoldable pub head_of : Option (List ℕ) → Option ℕ
head_of none = none
head_of (some []) = none
head_of (some (i ∷ r)) = some i

-- of all routes from a node: the one, and its first link
unfoldable pub fewest_from : Net → ℕ → Option (List ℕ)
fewest_from G a = fewest_of (all_routes G a)

unfoldable pub first_link : Net → ℕ → Option ℕ
first_link G a = head_of (fewest_from G a)

-- ---- how far the goal is

-- there is a far end, and it passes the test
unfoldable pub passes : (ℕ → Bool) → Option ℕ → Bool
passes p none = false
passes p (some f) = p f

-- link i leads from the node a to one that passes the test
unfoldable pub leads_to : Net → (ℕ → Bool) → ℕ → ℕ → Bool
leads_to G p a i = passes p (G.far i a)

-- some link does
unfoldable pub some_leads : Net → (ℕ → Bool) → ℕ → Bool
some_leads G p a = any_below (leads_to G p a) G.links

-- the goal is at most k links away
unfoldable pub near : Net → ℕ → ℕ → Bool
near G zero a = eqb a G.goal
near G (suc k) a = near G k a || some_leads G (near G k) a
