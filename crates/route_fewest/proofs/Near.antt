-- Nodes by how far the goal is: each link of a shortest way comes one link nearer, so that it meets no node twice and is a route.
use mathlib.Core.Path.{◌≡◌, refl, ◌∙◌, ap}
use mathlib.Core.Logic.{◌⊎◌, inl, inr}
use mathlib.Core.Bool.{Bool, true, false, ◌||◌}
use mathlib.Core.Option.{Option, none, some}
use mathlib.Core.List.{List, [], ◌∷◌}
use Prim.Native.Nat.{ℕ, zero, suc, ◌<◌, ◌≤◌}
use native.Mathlib.Omega.{arith}
use lib.Dec.{eqb, ltb}
use lib.ListN.{length}
use borrow.Author.Tests.{eqb-true, eqb-false, eq-eqb, ltb-true, ltb-false}
use Rattle.lists.specs.Places.{first_below}
use Rattle.lists.proofs.Places.{any_found, first_found}
use Rattle.lists.proofs.Bools.{or_right, no_true, both_ways}
use Rattle.route.proofs.Tests.{either}
use Rattle.route.proofs.Laws.{also-other}
use Rattle.route.specs.Route.{Net, also, only, IsRoute, arrived, passed}
use Rattle.route_fewest.specs.Fewest.{passes, leads_to, some_leads, near}
use Rattle.route_fewest.specs.Promises.{Away}

module _ (G : Net) where
  -- ---- one link

  pub leads-by : (p : ℕ → Bool) (a i f : ℕ) → G.far i a ≡ some f → p f ≡ true → leads_to G p a i ≡ true
  unfolding leads_to passes
  leads-by p a i f e h = rw e h

  -- where a link leads to
  pub record Led (p : ℕ → Bool) (a i : ℕ) : Type 0 where
    pub to : ℕ
    pub far : G.far i a ≡ some to
    pub ok : p to ≡ true

  pub led : (p : ℕ → Bool) (a i : ℕ) → leads_to G p a i ≡ true → Led p a i
  unfolding leads_to passes
  led p a i h = go (G.far i a) refl h
    where
      go : (o : Option ℕ) → G.far i a ≡ o → passes p o ≡ true → Led p a i
      go none e q = absurd (both_ways q refl)
      go (some f) e q = record { to = f; far = e; ok = q }

  -- ---- within k links

  near-more : (k a : ℕ) → near G k a ≡ true → near G (suc k) a ≡ true
  unfolding near
  near-more k a h = rw h

  pub near_by : (k a i f : ℕ) → i < G.links → G.far i a ≡ some f → near G k f ≡ true → near G (suc k) a ≡ true
  unfolding near some_leads
  near_by k a i f l e h = rw (any_found (leads_to G (near G k) a) G.links i l (leads-by (near G k) a i f e h)) (or_right (near G k a))

  pub near-into : (k a : ℕ) → some_leads G (near G k) a ≡ true → near G (suc k) a ≡ true
  unfolding near
  near-into k a h = rw h (or_right (near G k a))

  pub into-near : (k a : ℕ) → near G k a ≡ false → near G (suc k) a ≡ true → some_leads G (near G k) a ≡ true
  unfolding near
  into-near k a n h = go (near G k a) n h
    where
      go : (b : Bool) → b ≡ false → (b || some_leads G (near G k) a) ≡ true → some_leads G (near G k) a ≡ true
      go true z q = absurd (both_ways refl z)
      go false z q = q

  pub near_le : (k j a : ℕ) → j ≤ k → near G j a ≡ true → near G k a ≡ true
  near_le zero j a l h = let e : j ≡ 0 = omega arith in rw e at h
  near_le (suc k) j a l h = go (λ q. near_le k j a q h) (either (eqb j (suc k)))
    where
      go : (j ≤ k → near G k a ≡ true) → (eqb j (suc k) ≡ true) ⊎ (eqb j (suc k) ≡ false) → near G (suc k) a ≡ true
      go below (inl e) = let q : j ≡ suc k = eqb-true j (suc k) e in rw q at h
      go below (inr e) = let q : ¬ (j ≡ suc k) = eqb-false j (suc k) e in near-more k a (below (omega arith))

  -- a route of k links leads to the goal in k links
  pub near-route : {a : ℕ} {met : ℕ → Bool} {r : List ℕ} → IsRoute G a met r → near G (length r) a ≡ true
  unfolding near
  near-route {a = a} (arrived e) = eq-eqb a G.goal e
  near-route {a = a} (passed {i = i} {f = f} {r = r} ne l e m p) = near_by (length r) a i f l e (near-route p)

  -- ---- k links away

  -- what is within k links is some number of links away
  pub away_of : (k a : ℕ) → near G k a ≡ true → (j : ℕ) × (j ≤ k) × Away G j a
  away_of zero a h = (0, omega arith, record { within = h; least = λ j l. absurd (omega arith) })
  away_of (suc k) a h = go (λ q. away_of k a q) (either (near G k a))
    where
      go : (near G k a ≡ true → (j : ℕ) × (j ≤ k) × Away G j a) → (near G k a ≡ true) ⊎ (near G k a ≡ false) → (j : ℕ) × (j ≤ suc k) × Away G j a
      go below (inl q) = let w = below q in (w.0, (let l = w.1 in omega arith), w.2)
      go below (inr q) = (suc k, omega arith, record { within = h; least = λ j l. no_true (λ e. both_ways (near_le k j a (omega arith) e) q) })

  pub away-here : (a : ℕ) → Away G 0 a → a ≡ G.goal
  unfolding near
  away-here a w = eqb-true a G.goal w.within

  pub away-else : (k a : ℕ) → Away G (suc k) a → ¬ (a ≡ G.goal)
  unfolding near
  away-else k a w = eqb-false a G.goal (w.least 0 (omega arith))

  -- two numbers of links away are one
  pub away-one : (j k a : ℕ) → Away G j a → Away G k a → j ≡ k
  away-one j k a v w = go (either (eqb j k))
    where
      less : (j k : ℕ) → Away G j a → Away G k a → j < k → ⊥
      less j k v w l = both_ways v.within (w.least j l)

      part : ¬ (j ≡ k) → (ltb j k ≡ true) ⊎ (ltb j k ≡ false) → j ≡ k
      part ne (inl t) = absurd (less j k v w (ltb-true j k t))
      part ne (inr t) = let q = ltb-false j k t in absurd (less k j w v (omega arith))

      go : (eqb j k ≡ true) ⊎ (eqb j k ≡ false) → j ≡ k
      go (inl e) = eqb-true j k e
      go (inr e) = part (eqb-false j k e) (either (ltb j k))

  -- a link to a node within k links, from one that is not, comes one link nearer
  pub away-on : (k a i f : ℕ) → Away G (suc k) a → i < G.links → G.far i a ≡ some f → near G k f ≡ true → Away G k f
  away-on k a i f w l e h = record { within = h; least = λ j b. no_true (λ q. both_ways (near_by j a i f l e q) (w.least (suc j) (omega arith))) }

  -- ---- the shortest ways are routes

  -- no node within fewer than k links is met
  abbrev pub Open : ℕ → (ℕ → Bool) → Type 0
  Open k met = (n j : ℕ) → j < k → near G j n ≡ true → met n ≡ false

  pub open-only : (k a : ℕ) → Away G k a → Open k (only a)
  unfolding only
  open-only k a w n j l h = also-other a (λ _. false) n (λ e. both_ways (rw e at h) (w.least j l))

  pub open-on : (k f : ℕ) (met : ℕ → Bool) → Away G k f → Open (suc k) met → Open k (also f met)
  open-on k f met w o n j l h = also-other f met n (λ e. both_ways (rw e at h) (w.least j l)) ∙ o n j (omega arith) h

  -- a route of k links
  pub record Routed (k a : ℕ) (met : ℕ → Bool) : Type 0 where
    pub links : List ℕ
    pub route : IsRoute G a met links
    pub size : length links ≡ k

  -- one of k + 1 links that begins with link i
  pub record By (k a : ℕ) (met : ℕ → Bool) (i : ℕ) : Type 0 where
    pub rest : List ℕ
    pub route : IsRoute G a met (i ∷ rest)
    pub size : length rest ≡ k

  -- any link that comes nearer begins one
  by-link : (k a : ℕ) (met : ℕ → Bool) → ((f : ℕ) (m : ℕ → Bool) → Away G k f → Open k m → Routed k f m) → Away G (suc k) a → Open (suc k) met
      → (i f : ℕ) → i < G.links → G.far i a ≡ some f → near G k f ≡ true → By k a met i
  by-link k a met on w o i f l e h =
      let v = away-on k a i f w l e h in
      let t = on f (also f met) v (open-on k f met v o) in
      record { rest = t.links; route = passed (away-else k a w) l e (o f k (omega arith) h) t.route; size = t.size }

  -- some link comes nearer
  pub record Next (k a : ℕ) : Type 0 where
    pub link : ℕ
    pub to : ℕ
    pub there : link < G.links
    pub far : G.far link a ≡ some to
    pub near-to : near G k to ≡ true

  pub next_of : (k a : ℕ) → some_leads G (near G k) a ≡ true → Next k a
  unfolding some_leads
  next_of k a h =
      let f = first_found (leads_to G (near G k) a) G.links h in
      let d = led (near G k) a (first_below (leads_to G (near G k) a) G.links) f.passes in
      record { link = first_below (leads_to G (near G k) a) G.links; to = d.to; there = f.below; far = d.far; near-to = d.ok }

  pub into-away : (k a : ℕ) → Away G (suc k) a → some_leads G (near G k) a ≡ true
  into-away k a w = into-near k a (w.least k (omega arith)) w.within

  pub route-of : (k a : ℕ) (met : ℕ → Bool) → Away G k a → Open k met → Routed k a met
  route-of zero a met w o = record { links = []; route = arrived (away-here a w); size = refl }
  route-of (suc k) a met w o =
      let x = next_of k a (into-away k a w) in
      let b = by-link k a met (λ f m v p. route-of k f m v p) w o x.link x.to x.there x.far x.near-to in
      record { links = x.link ∷ b.rest; route = b.route; size = ap suc b.size }

  pub take_link : (k a : ℕ) (met : ℕ → Bool) → Away G (suc k) a → Open (suc k) met → (i f : ℕ) → i < G.links → G.far i a ≡ some f → near G k f ≡ true
      → By k a met i
  take_link k a met w o i f l e h = by-link k a met (λ f m v p. route-of k f m v p) w o i f l e h
