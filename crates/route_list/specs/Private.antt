-- The lister over the arrays that the trace keeps, and the walk that fills the slots.
use Rattle.std.specs.Prelude.{ℕ, suc, ◌+◌, ◌-◌, ◌*◌, ◌/◌, ◌≤◌, ◌≡◌, Bool, cond, List, [], ◌∷◌, ◌++◌, map, ltb, length, take, drop, replicate}
use Rattle.std.proofs.lemmas.List.Edits.{sets}
use Rattle.lists.specs.Refusals.{or_else}
use Rattle.route_links.specs.Private.{routes_on, routes_by, OnRoute, Choosing}
use Rattle.route_search.specs.Answers.{longest_route}
use Rattle.route_search.specs.Private.{places_refusal, routes_over}
use Rattle.route_list.specs.Listing.{slot_size, slot_of, list_refusal}

-- 26 and 28 as for the first route, then the lister's own
unfoldable pub list_refusal_over : List (List ℕ) → List ℕ → ℕ → ℕ → ℕ → ℕ → ℕ
list_refusal_over ends ways links from to n = or_else (places_refusal links from) (list_refusal (routes_over ends ways links from to) n)

-- ---- filling slots

-- the slots that a buffer has room for
abbrev pub room_in : List ℕ → ℕ
room_in buf = length buf / slot_size

-- the buffer with a slot written at place n, if there is room
unfoldable pub slot_put : List ℕ → ℕ → List ℕ → List ℕ
slot_put buf n slot = cond (ltb n (room_in buf)) (sets buf (slot_size * n) slot) buf

-- the slots, and how many routes have been counted: at most one more than there is room for
pub record Slots : Type 0 where
  pub bytes : List ℕ
  pub count : ℕ

-- more routes have been counted than there is room for
unfoldable pub full : Slots → Bool
full s = ltb (room_in s.bytes) s.count

-- a route more
unfoldable pub stow : Slots → List ℕ → Slots
stow s r = cond (full s) s (record { bytes = slot_put s.bytes s.count (slot_of r); count = s.count + 1 })

unfoldable pub stow_all : Slots → List (List ℕ) → Slots
stow_all s [] = s
stow_all s (r ∷ rs) = stow_all (stow s r) rs

-- ---- the path

-- the links of a path of d links: its places 1 to d
unfoldable pub links_in : List ℕ → ℕ → List ℕ
links_in path d = take d (drop 1 path)

-- past them a path has zeros
abbrev pub Cleared : List ℕ → ℕ → Type 0
Cleared path d = drop (suc d) path ≡ replicate (longest_route - d) 0

-- ---- the walk

-- the routes that go on from the path by one of these links, and those on from the node f
unfoldable pub paths_by : List ℕ → ℕ → ℕ → ℕ → List ℕ → ℕ → List (List ℕ)
paths_by t at gone links path d = map (λ r. links_in path d ++ r) (routes_by t at gone links)

unfoldable pub paths_on : List ℕ → ℕ → ℕ → List ℕ → ℕ → List (List ℕ)
paths_on t f gone path d = map (λ r. links_in path d ++ r) (routes_on t f gone)

-- where a walk stands, on a route, with the path so far, and not yet more than there is room for
pub record Walking (t : List ℕ) (f gone d : ℕ) (path : List ℕ) (n : ℕ) (buf : List ℕ) : Type 0 where
  pub stands : OnRoute t f gone d
  pub cleared : Cleared path d
  pub room : n ≤ room_in buf

-- what it chooses from, links that begin routes, likewise
pub record Trying (t : List ℕ) (at gone links d : ℕ) (path : List ℕ) (n : ℕ) (buf : List ℕ) : Type 0 where
  pub chooses : Choosing t at gone links d
  pub cleared : Cleared path d
  pub room : n ≤ room_in buf
