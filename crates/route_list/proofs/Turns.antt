-- The two steps that call on each other, turn by turn.
use Prim.Native.Nat.{ℕ, ◌+◌, ◌-◌, ◌<◌, ◌≤◌}
use mathlib.Core.Path.{◌≡◌, refl, sym, ap, ap₂, ◌∙◌}
use mathlib.Core.Bool.{Bool, true}
use mathlib.Core.List.{List, [], ◌∷◌, ◌++◌, map, map-append, append_assoc, append-nil}
use native.Mathlib.Omega.{arith}
use borrow.Author.Tests.{lt-ltb}
use lib.Bits.{bit_xor}
use lib.ListN.{length, get_or, set, replicate}
use Rattle.route.specs.All.{all_routes}
use Rattle.route_links.specs.Private.{alone, net_of, Walkable, gone_after, links_on, routes_on, routes_by, OnRoute}
use Rattle.route_links.proofs.Standing.{routes-here, start-routes}
use Rattle.route_links.proofs.Turning.{Turn, routes-none}
use Rattle.route_ahead.specs.Ahead.{LooksOn, Reaches}
use Rattle.route_ahead.proofs.Going.{going-ahead, reached}
use Rattle.route_list.specs.Private.{room_in, Slots, full, stow, stow_all, links_in, Cleared, paths_by, paths_on, Walking, Trying}
use Rattle.route_list.proofs.Stowing.{stow-append, stow-full, cleared_more, links-more}

-- a path before each of these routes
abbrev behind : List ℕ → List (List ℕ) → List (List ℕ)
behind p rs = map (λ r. p ++ r) rs

-- a link before each of them, and then the path, is the path with the link
behind-link : (p : List ℕ) (i : ℕ) (rs : List (List ℕ)) → behind p (map (λ r. i ∷ r) rs) ≡ behind (p ++ (i ∷ [])) rs
behind-link p i [] = refl
behind-link p i (r ∷ rs) = ap₂ (λ (q : List ℕ) (l : List (List ℕ)). q ∷ l) (sym (append_assoc p (i ∷ []) r)) (behind-link p i rs)

-- ---- one turn of trying links

module _ (t : List ℕ) (at gone links d i : ℕ) (path : List ℕ) (u : Turn t at gone links d i) where
  -- the routes by the link i, and those by the others
  paths-split : length path ≡ 16
      → paths_by t at gone links path d ≡ paths_on t (get_or t (32 + i) 0 - at) gone (set path (d + 1) i) (d + 1) ++ paths_by t at gone (bit_xor links (alone i)) path d
  unfolding paths_by paths_on
  paths-split h =
      let f : ℕ = get_or t (32 + i) 0 - at in
      let l = u.room in
      ap (behind (links_in path d)) u.says
      ∙ map-append (λ r. links_in path d ++ r) (map (λ r. i ∷ r) (routes_on t f gone)) (routes_by t at gone (bit_xor links (alone i)))
      ∙ ap (λ (rs : List (List ℕ)). rs ++ behind (links_in path d) (routes_by t at gone (bit_xor links (alone i))))
      (behind-link (links_in path d) i (routes_on t f gone) ∙ ap (λ (p : List ℕ). behind p (routes_on t f gone)) (sym (links-more path d i (omega arith))))

  pub walking-of : Cleared path d → (p : ℕ) (buf : List ℕ) → p ≤ room_in buf → Walking t (get_or t (32 + i) 0 - at) gone (d + 1) (set path (d + 1) i) p buf
  walking-of c p buf r = record { stands = u.stands; cleared = cleared_more path d i u.room c; room = r }

  -- what a call left, where s was before it: the routes by the others are still to come
  module _ (h : length path ≡ 16) (s z whole : Slots) (said : z ≡ stow_all s (paths_on t (get_or t (32 + i) 0 - at) gone (set path (d + 1) i) (d + 1)))
      (inv : stow_all s (paths_by t at gone links path d) ≡ whole) where
    pub went : stow_all z (paths_by t at gone (bit_xor links (alone i)) path d) ≡ whole
    went =
        ap (λ (q : Slots). stow_all q (paths_by t at gone (bit_xor links (alone i)) path d)) said
        ∙ sym (stow-append s (paths_on t (get_or t (32 + i) 0 - at) gone (set path (d + 1) i) (d + 1)) (paths_by t at gone (bit_xor links (alone i)) path d))
        ∙ ap (stow_all s) (sym (paths-split h))
        ∙ inv

    -- or there is no room for them
    pub went-full : room_in z.bytes < z.count → z ≡ whole
    unfolding full
    went-full l = sym (stow-full z (paths_by t at gone (bit_xor links (alone i)) path d) (lt-ltb (room_in z.bytes) z.count l)) ∙ went

pub none_left : (t : List ℕ) (at gone links d : ℕ) (path : List ℕ) (s : Slots) → links ≡ 0 → s ≡ stow_all s (paths_by t at gone links path d)
unfolding paths_by stow_all
none_left t at gone links d path s e = ap (λ (rs : List (List ℕ)). stow_all s (behind (links_in path d) rs)) (sym (routes-none t at gone links e))

-- ---- on from a node

module _ (t : List ℕ) (f gone d : ℕ) (path : List ℕ) where
  pub arrived : (s : Slots) → f ≡ get_or t 80 0 → stow s (links_in path d) ≡ stow_all s (paths_on t f gone path d)
  unfolding paths_on stow_all
  arrived s e =
      ap (stow s) (sym (append-nil (links_in path d))) ∙ ap (λ (rs : List (List ℕ)). stow_all s (behind (links_in path d) rs)) (sym (routes-here t f gone e))

  -- by the links that the look ahead keeps
  module _ (O : OnRoute t f gone d) (ne : f ≡ get_or t 80 0 → ⊥) (kept : ℕ) (L : LooksOn t (gone_after t gone f) (links_on t gone f) kept) where
    pub went_on : paths_on t f gone path d ≡ paths_by t f (gone_after t gone f) kept path d
    unfolding paths_on paths_by
    went_on = ap (behind (links_in path d)) ((going-ahead t f gone d O ne kept L).says ne)

    pub trying-of : (n : ℕ) (buf : List ℕ) → Cleared path d → n ≤ room_in buf → Trying t f (gone_after t gone f) kept d path n buf
    trying-of n buf c r = record { chooses = (going-ahead t f gone d O ne kept L).chooses; cleared = c; room = r }

-- ---- the start

module _ (t : List ℕ) (from : ℕ) where
  pub start-walking : (buf : List ℕ) (answer : Bool) → Walkable t → from < 16 → Reaches t from answer → answer ≡ true → Walking t from 0 0 (replicate 16 0) 0 buf
  start-walking buf answer w h R e = record { stands = reached t from answer R w h e; cleared = refl; room = omega arith }

  pub start-paths : paths_on t from 0 (replicate 16 0) 0 ≡ all_routes (net_of t) from
  unfolding paths_on links_in
  start-paths = same (routes_on t from 0) ∙ start-routes t from
    where
      same : (rs : List (List ℕ)) → map (λ r. [] ++ r) rs ≡ rs
      same [] = refl
      same (r ∷ rs) = ap (λ (l : List (List ℕ)). r ∷ l) (same rs)
