-- What the look ahead says taken together (document 02, Eleven). proofs/Promises.antt has the theorems.
use Rattle.std.specs.Prelude.{ℕ, ◌<◌, ◌≡◌, Bool, true, false, not, ◌||◌, eqb}
use Rattle.std.proofs.Math.Option.{Option, none, some}
use mathlib.Core.List.{List, [], ◌∷◌, ◌++◌, Memᴰ}
use Rattle.chart.specs.Values.{most_nodes}
use Rattle.route.specs.Route.{Net, Sound, also, only, RouteFrom}
use Rattle.route.specs.All.{all_from}
use Rattle.route_links.specs.Arrays.{net}
use Rattle.route_links.specs.Sets.{has, where_from, places_in}
use Rattle.route_links.specs.ByNode.{ByNode}
use Rattle.route_links.specs.Private.{met_of}
use Rattle.route_ahead.specs.Ahead.{LooksAhead}

-- the route begins with link i; one of these routes does
unfoldable pub begins_with : ℕ → List ℕ → Bool
begins_with i [] = false
begins_with i (j ∷ r) = eqb j i

unfoldable pub begins_one : ℕ → List (List ℕ) → Bool
begins_one i [] = false
begins_one i (r ∷ l) = begins_with i r || begins_one i l

-- the links with which the routes on from a node begin, each once, in order of place
unfoldable pub first_links : Net → ℕ → (ℕ → Bool) → List ℕ
first_links G at met = where_from (λ i. begins_one i (all_from G at met)) 0 G.links

-- a walk that goes on by such links alone
pub data Goes (G : Net) : ℕ → (ℕ → Bool) → List ℕ → Type 0 where
  stopped : {at : ℕ} {met : ℕ → Bool} → Goes G at met []
  stepped : {at i f : ℕ} {met : ℕ → Bool} {p : List ℕ} → Memᴰ i (first_links G at met) → G.far i at ≡ some f → Goes G f (also f met) p
      → Goes G at met (i ∷ p)

-- takes no step that is not on a route: however far it has come, a route goes on from there
abbrev pub NoStepInVain : Type 0
NoStepInVain = (G : Net) → Sound G → (a i : ℕ) (p : List ℕ) → Goes G a (only a) (i ∷ p) → (r : List ℕ) × RouteFrom G a ((i ∷ p) ++ r)

-- the far end of a link is there and is not met
unfoldable pub fresh_end : (ℕ → Bool) → Option ℕ → Bool
fresh_end met none = false
fresh_end met (some f) = not (met f)

-- one stands at a node of G, which is met and is not the goal; the goal is not met; and `out` has the links that lead on to nodes that are not met
pub record AtNode (G : Net) (at gone out : ℕ) : Type 0 where
  pub node : at < most_nodes
  pub met : met_of gone at ≡ true
  pub other : at ≡ G.goal → ⊥
  pub goal : met_of gone G.goal ≡ false
  pub leads : (i : ℕ) → has out i ≡ fresh_end (met_of gone) (G.far i at)

-- what a look ahead keeps of these links are the first links of the routes on from there
abbrev pub KeepsFirstLinks : Type 0
KeepsFirstLinks = (ends : List (List ℕ)) (ways : List ℕ) (links to : ℕ) (t : List ℕ) → ByNode (net ends ways links to) t → (at gone out kept : ℕ)
    → AtNode (net ends ways links to) at gone out → LooksAhead t gone out kept → places_in kept ≡ first_links (net ends ways links to) at (met_of gone)
