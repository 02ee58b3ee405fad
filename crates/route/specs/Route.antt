-- Routes and their order (document 01, "Routes and their order"). Nodes and links go by their places.
use Rattle.std.specs.Prelude.{◌≡◌, Bool, false, ◌||◌, ℕ, ◌<◌, eqb}
use Rattle.std.proofs.Math.Option.{Option, some}
use mathlib.Core.List.{List, [], ◌∷◌, Memᴰ}

-- What routes go over: how many nodes and links there are, the node that is asked for, and the far end of a link for one who stands
-- at a node: none where the link cannot be passed from there, because it is off or has no end there.
pub record Net : Type 0 where
  pub nodes : ℕ
  pub links : ℕ
  pub far : ℕ → ℕ → Option ℕ
  pub goal : ℕ

-- every far end is a node
abbrev pub Sound : Net → Type 0
Sound G = (i a f : ℕ) → G.far i a ≡ some f → f < G.nodes

-- the nodes met, as a test: those so far, and f
unfoldable pub also : ℕ → (ℕ → Bool) → ℕ → Bool
also f met n = eqb n f || met n

-- only the node that one begins at is met
unfoldable pub only : ℕ → ℕ → Bool
only a = also a (λ n. false)

-- A route on from a node, with some nodes met: at the goal it is empty; elsewhere it is a link to a node that is not met, and a route on
-- from there with that node met too.
pub data IsRoute (G : Net) : ℕ → (ℕ → Bool) → List ℕ → Type 0 where
  arrived : {at : ℕ} {met : ℕ → Bool} → at ≡ G.goal → IsRoute G at met []
  passed : {at i f : ℕ} {met : ℕ → Bool} {r : List ℕ} → ¬ (at ≡ G.goal) → i < G.links → G.far i at ≡ some f → met f ≡ false
      → IsRoute G f (also f met) r → IsRoute G at met (i ∷ r)

-- a route from a node: no other node is met yet
abbrev pub RouteFrom : Net → ℕ → List ℕ → Type 0
RouteFrom G a r = IsRoute G a (only a) r

-- one route comes before another: at the first place where they differ it has the smaller link place
pub data Before : List ℕ → List ℕ → Type 0 where
  smaller : {i j : ℕ} {r s : List ℕ} → i < j → Before (i ∷ r) (j ∷ s)
  alike : {i j : ℕ} {r s : List ℕ} → i ≡ j → Before r s → Before (i ∷ r) (j ∷ s)

-- each comes before all that follow it
abbrev pub Increasing : List (List ℕ) → Type 0
Increasing [] = Unit {0}
Increasing (r ∷ l) = ((s : List ℕ) → Memᴰ s l → Before r s) × Increasing l

-- none stands twice
abbrev pub NoneTwice : List (List ℕ) → Type 0
NoneTwice [] = Unit {0}
NoneTwice (r ∷ l) = (Memᴰ r l → ⊥) × NoneTwice l
