-- The first link of the route with the fewest links: it is the first that comes nearer to the goal.
use mathlib.Core.Path.{◌≡◌, refl, sym, ◌∙◌, ap, subst}
use mathlib.Core.Logic.{◌⊎◌, inl, inr}
use mathlib.Core.Bool.{Bool, true, false, cond}
use mathlib.Core.Option.{Option, none, some, none-ne-some, some-injective}
use mathlib.Core.List.{List, [], ◌∷◌, head-eq_of_cons-eq}
use Prim.Native.Nat.{ℕ, zero, suc, ◌+◌, ◌<◌, ◌≤◌}
use native.Mathlib.Omega.{arith}
use lib.Dec.{eqb}
use lib.ListN.{length}
use borrow.Author.Tests.{eqb-true, eqb-false}
use Rattle.lists.specs.Places.{any_below, first_below}
use Rattle.lists.proofs.Places.{FirstAt, first_found, first-stop}
use Rattle.lists.proofs.Bools.{no_true, both_ways}
use Rattle.route.specs.Route.{Net, Sound, only, IsRoute, arrived, passed, RouteFrom, Before, smaller, alike}
use Rattle.route.specs.All.{all_routes}
use Rattle.route.proofs.Tests.{either}
use Rattle.route.proofs.Laws.{all_here, route-short}
use Rattle.route_fewest.specs.Fewest.{or_fewer, fewest_of, head_of, fewest_from, first_link, leads_to, some_leads, near}
use Rattle.route_fewest.specs.Promises.{Fewest, Away}
use Rattle.route_fewest.specs.Private.{hop_from, hop, FirstIsHop, Nearer, HopFalls}
use Rattle.route_fewest.proofs.Near.{leads-by, led, near-into, near-route, away-here, away-one, away_of, away-else, away-on, open-only, Routed, take_link, into-away}
use Rattle.route_fewest.proofs.Routes.{fewest-of, none_of, route-away, fewest-away, away-route}

module _ (G : Net) (a : ℕ) where
  -- where the goal is k + 1 links away, no link leads to a node less than k links away, and one leads to a node k links away
  hop-skip : (k j n : ℕ) → Away G (suc k) a → j < k → (b : Bool) → some_leads G (near G j) a ≡ b
      → cond b (some (first_below (leads_to G (near G j) a) G.links)) (hop_from G a (suc j) n) ≡ hop_from G a (suc j) n
  hop-skip k j n w l true e = absurd (both_ways (near-into G j a e) (w.least (suc j) (omega arith)))
  hop-skip k j n w l false e = refl

  hop-at : (k j n : ℕ) → Away G (suc k) a → j ≤ k → k < j + n → hop_from G a j n ≡ some (first_below (leads_to G (near G k) a) G.links)
  unfolding hop_from
  hop-at k j zero w l h = absurd (omega arith)
  hop-at k j (suc n) w l h = go (λ p q. hop-at k (suc j) n w p q) (either (eqb j k))
    where
      go : (suc j ≤ k → k < suc j + n → hop_from G a (suc j) n ≡ some (first_below (leads_to G (near G k) a) G.links))
          → (eqb j k ≡ true) ⊎ (eqb j k ≡ false) → hop_from G a j (suc n) ≡ some (first_below (leads_to G (near G k) a) G.links)
      go on (inl e) =
          let q : j ≡ k = eqb-true j k e in
          rw (q, into-away G k a w)
      go on (inr e) =
          let q : ¬ (j ≡ k) = eqb-false j k e in
          hop-skip k j n w (omega arith) (some_leads G (near G j) a) refl ∙ on (omega arith) (omega arith)

  -- where it is no number of links away there is none
  pub hop-none : (n k : ℕ) → ((j : ℕ) → near G j a ≡ false) → hop_from G a k n ≡ none
  unfolding hop_from
  hop-none zero k h = refl
  hop-none (suc n) k h = go (some_leads G (near G k) a) refl (hop-none n (suc k) h)
    where
      go : (b : Bool) → some_leads G (near G k) a ≡ b → hop_from G a (suc k) n ≡ none
          → cond b (some (first_below (leads_to G (near G k) a) G.links)) (hop_from G a (suc k) n) ≡ none
      go true e q = absurd (both_ways (near-into G k a e) (h (suc k)))
      go false e q = q

module _ (G : Net) (sound : Sound G) where
  module _ (a : ℕ) where
    -- the first link of the first of the fewest is the first that comes nearer
    least-link : (i : ℕ) (r : List ℕ) → Fewest G a (i ∷ r) → first_below (leads_to G (near G (length r)) a) G.links ≡ i
    least-link i r f = first-stop (leads_to G (near G (length r)) a) G.links i (of-route f.route)
      where
        w : Away G (suc (length r)) a
        w = fewest-away G sound a (i ∷ r) f

        clash : (j : ℕ) (s : List ℕ) → j < i → (j ∷ s ≡ i ∷ r) ⊎ Before (i ∷ r) (j ∷ s) → ⊥
        clash j s l (inl e) = let z = head-eq_of_cons-eq e in omega arith
        clash j s l (inr (smaller b)) = omega arith
        clash j s l (inr (alike e b)) = omega arith

        none_before : i < G.links → any_below (leads_to G (near G (length r)) a) i ≡ true → ⊥
        none_before l e =
            let x = first_found (leads_to G (near G (length r)) a) i e in
            let j = first_below (leads_to G (near G (length r)) a) i in
            let d = led G (near G (length r)) a j x.passes in
            let b : j < i = x.below in
            let t = take_link G (length r) a (only a) w (open-only G (suc (length r)) a w) j d.to (omega arith) d.far d.ok in
            clash j t.rest b (f.first (j ∷ t.rest) t.route (ap suc t.size))

        of-route : IsRoute G a (only a) (i ∷ r) → FirstAt (leads_to G (near G (length r)) a) G.links i
        of-route (passed {f = g} ne l e m p) =
            record {
              below = l;
              passes = leads-by G (near G (length r)) a i g e (near-route G p);
              none_before = no_true (none_before l);
            }

    -- there is one exactly if a route leads to the goal, whose links are fewer than the nodes
    pub first-hop : a < G.nodes → ¬ (a ≡ G.goal) → first_link G a ≡ hop G a
    unfolding first_link hop head_of
    first-hop l ne = go (fewest_from G a) refl
      where
        away-never : fewest_from G a ≡ none → (j : ℕ) → near G j a ≡ true → ⊥
        away-never e j q = let w = away_of G j a q in let t = route-away G sound w.0 a w.2 in none_of G sound a e t.links t.route

        at-goal : IsRoute G a (only a) [] → ⊥
        at-goal (arrived e) = ne e

        go : (o : Option (List ℕ)) → fewest_from G a ≡ o → head_of o ≡ hop_from G a 0 G.nodes
        go none e = sym (hop-none G a G.nodes 0 (λ j. no_true (away-never e j)))
        go (some []) e = absurd (at-goal (fewest-of G sound a [] e).route)
        go (some (i ∷ r)) e =
            let f = fewest-of G sound a (i ∷ r) e in
            let s : length (i ∷ r) < G.nodes = route-short G sound a l (i ∷ r) f.route in
            sym (hop-at G a (length r) 0 G.nodes (fewest-away G sound a (i ∷ r) f) (omega arith) (omega arith) ∙ ap some (least-link i r f))

  -- ---- it comes nearer

  pub hop-falls : (a k : ℕ) → Away G (suc k) a → (i : ℕ) × (f : ℕ) × (first_link G a ≡ some i) × Nearer G k a i f
  unfolding first_link head_of
  hop-falls a k w = go (fewest_from G a) refl
    where
      t : Routed G (suc k) a (only a)
      t = route-away G sound (suc k) a w

      nearer : (i : ℕ) (r : List ℕ) → suc (length r) ≡ suc k → IsRoute G a (only a) (i ∷ r) → (f : ℕ) × Nearer G k a i f
      nearer i r s (passed {f = f} ne l e m p) =
          let z : length r ≡ k = omega arith in
          (f, record { there = l; far = e; away = away-on G k a i f w l e (rw z at (near-route G p)) })

      go : (o : Option (List ℕ)) → fewest_from G a ≡ o → (i : ℕ) × (f : ℕ) × (head_of o ≡ some i) × Nearer G k a i f
      go none e = absurd (none_of G sound a e t.links t.route)
      go (some []) e = absurd (let f = fewest-away G sound a [] (fewest-of G sound a [] e) in away-else G k a w (away-here G a f))
      go (some (i ∷ r)) e =
          let f = fewest-of G sound a (i ∷ r) e in
          let z = away-one G (suc (length r)) (suc k) a (fewest-away G sound a (i ∷ r) f) w in
          let n = nearer i r z f.route in
          (i, n.0, refl, n.1)

pub first-is-hop : FirstIsHop
first-is-hop G sound a l ne = first-hop G sound a l ne

pub falls : HopFalls
falls G sound a l k w = hop-falls G sound a k w

-- what a first link says: the goal is some links away, and this one comes nearer
pub first-nearer : (G : Net) → Sound G → (a i : ℕ) → first_link G a ≡ some i → (k : ℕ) × (f : ℕ) × Away G (suc k) a × Nearer G k a i f
unfolding first_link head_of
first-nearer G sound a i h = go (fewest_from G a) refl h
  where
    same : (j k f : ℕ) → some j ≡ some i → Nearer G k a j f → Nearer G k a i f
    same j k f e n = subst (λ (x : ℕ). Nearer G k a x f) (some-injective j i e) n

    go : (o : Option (List ℕ)) → fewest_from G a ≡ o → head_of o ≡ some i → (k : ℕ) × (f : ℕ) × Away G (suc k) a × Nearer G k a i f
    go none e q = absurd (none-ne-some i q)
    go (some []) e q = absurd (none-ne-some i q)
    go (some (j ∷ r)) e q =
        let w = fewest-away G sound a (j ∷ r) (fewest-of G sound a (j ∷ r) e) in
        let n = hop-falls G sound a (length r) w in
        (length r, n.1, w, same n.0 (length r) n.1 (sym n.2 ∙ ap head_of e ∙ q) n.3)

-- a node from which no first link goes, and that is not the goal, has no route
pub no-first : (G : Net) → Sound G → (a : ℕ) → first_link G a ≡ none → ¬ (a ≡ G.goal) → (r : List ℕ) → RouteFrom G a r → ⊥
no-first G sound a h ne r p = go (away-route G sound a r p)
  where
    go : (k : ℕ) × Away G k a → ⊥
    go (zero, w) = ne (away-here G a w)
    go (suc k, w) = let n = hop-falls G sound a k w in none-ne-some n.0 (sym h ∙ n.2)

-- at the goal the route is empty, and has no first link
pub first-here : (G : Net) (a : ℕ) → a ≡ G.goal → first_link G a ≡ none
unfolding first_link fewest_from all_routes fewest_of or_fewer head_of
first-here G a e = rw (all_here G a (only a) e) refl
