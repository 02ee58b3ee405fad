-- What routes, their order and their list say taken together (document 01, "Routes and their order"). proofs/Promises.antt has the theorems.
use Rattle.std.specs.Prelude.{◌≡◌, ◌⊎◌, ◌↔◌, ℕ, ◌<◌, length}
use Rattle.std.proofs.Math.Option.{none}
use mathlib.Core.List.{List, [], ◌∷◌, ◌++◌, Memᴰ}
use Rattle.route.specs.Route.{Net, Sound, RouteFrom, Before, Increasing, NoneTwice}
use Rattle.route.specs.All.{all_routes, Finding, route, no_more, no_route, first_of, next_of}

-- the first answer, then the next after each, until told that there are no more: these routes, in this order
pub data Gives (next : List ℕ → Finding) : Finding → List (List ℕ) → Type 0 where
  ended : Gives next no_more []
  another : {r : List ℕ} {l : List (List ℕ)} → Gives next (next r) l → Gives next (route r) (r ∷ l)

-- demand 3 of a first answer and of answers to what comes next: they give every route, each once, in order; from a node to itself the empty
-- one alone; and what is no route is told so
pub record EveryRoute (G : Net) (a : ℕ) (first : Finding) (next : List ℕ → Finding) : Type 0 where
  pub all : List (List ℕ)
  pub given : Gives next first all
  pub each : (r : List ℕ) → Memᴰ r all ↔ RouteFrom G a r
  pub once : NoneTwice all
  pub ordered : Increasing all
  pub itself : a ≡ G.goal → all ≡ [] ∷ []
  pub refused : (r : List ℕ) → (RouteFrom G a r → ⊥) → next r ≡ no_route

-- the first and the next in the list of all routes do that
abbrev pub ListGivesAll : Type 0
ListGivesAll = (G : Net) → Sound G → (a : ℕ) → EveryRoute G a (first_of (all_routes G a)) (next_of (all_routes G a))

-- these answers are the list's own
pub record TheseAnswers (G : Net) (a : ℕ) (first : Finding) (next : List ℕ → Finding) : Type 0 where
  pub first_is : first ≡ first_of (all_routes G a)
  pub next_is : (r : List ℕ) → next r ≡ next_of (all_routes G a) r

-- no other answers give every route so
abbrev pub NoOther : Type 0
NoOther = (G : Net) → Sound G → (a : ℕ) (first : Finding) (next : List ℕ → Finding) → EveryRoute G a first next → TheseAnswers G a first next

-- s is the least of those that P holds of
pub record LeastOf (P : List ℕ → Type 0) (s : List ℕ) : Type 0 where
  pub it : P s
  pub least : (q : List ℕ) → P q → (q ≡ s) ⊎ Before s q

-- what an answer says of P: the least one, or that there is none
abbrev pub Says : (List ℕ → Type 0) → Finding → Type 0
Says P (route s) = LeastOf P s
Says P no_more = (q : List ℕ) → P q → ⊥
Says P no_route = ⊥

-- the first is the least route
abbrev pub FirstLeast : Type 0
FirstLeast = (G : Net) → Sound G → (a : ℕ) → Says (RouteFrom G a) (first_of (all_routes G a))

-- the next after a route is the least of those that come after it
abbrev pub NextLeast : Type 0
NextLeast = (G : Net) → Sound G → (a : ℕ) (r : List ℕ) → RouteFrom G a r → Says (λ q. RouteFrom G a q × Before r q) (next_of (all_routes G a) r)

-- a route has fewer links than there are nodes: with 16 nodes at most 15
abbrev pub ShortRoutes : Type 0
ShortRoutes = (G : Net) → Sound G → (a : ℕ) → a < G.nodes → (r : List ℕ) → RouteFrom G a r → length r < G.nodes

-- a link that cannot be passed from any node, as one that is off, is in no route
abbrev pub OffLinks : Type 0
OffLinks = (G : Net) (a i : ℕ) → ((n : ℕ) → G.far i n ≡ none) → (r : List ℕ) → RouteFrom G a r → Memᴰ i r → ⊥

-- s is a route, and another than r
pub record TwoRoutes (G : Net) (a : ℕ) (r s : List ℕ) : Type 0 where
  pub route : RouteFrom G a s
  pub other : r ≡ s → ⊥

-- two links between the same nodes are two: where one is in a route, the other in its place makes another route
abbrev pub TwinLinks : Type 0
TwinLinks = (G : Net) (a i j : ℕ) → ((n : ℕ) → G.far i n ≡ G.far j n) → j < G.links → (i ≡ j → ⊥) → (p r : List ℕ)
    → RouteFrom G a (p ++ (i ∷ r)) → TwoRoutes G a (p ++ (i ∷ r)) (p ++ (j ∷ r))
