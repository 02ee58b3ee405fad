-- Link places, nodes met, and the equation of the list of all routes without a bound on its links: what all other laws rest on.
use mathlib.Core.Path.{◌≡◌, refl, sym, ◌∙◌, ap, ap₂}
use mathlib.Core.Logic.{◌⊎◌, inl, inr, ◌↔◌}
use mathlib.Core.Bool.{Bool, true, false, cond}
use mathlib.Core.Option.{Option, none, some}
use mathlib.Core.List.{List, [], ◌∷◌, ◌++◌, map, append_assoc, Memᴰ}
use Prim.Native.Nat.{ℕ, zero, suc, ◌+◌, ◌-◌, ◌<◌, ◌≤◌}
use native.Mathlib.Nat.{add-zero}
use native.Mathlib.Omega.{arith}
use lib.Dec.{eqb}
use lib.ListN.{length}
use borrow.Author.Tests.{eqb-true, eqb-false, eq-eqb, ne_eqb}
use Rattle.route.proofs.Tests.{either}
use Rattle.route.specs.Route.{Net, Sound, also, only, IsRoute, arrived, passed}
use Rattle.route.specs.All.{up_from, links_from, over, tries, routes, unmet, all_from}

-- ---- link places

pub links-more : (G : Net) (i : ℕ) → i < G.links → links_from G i ≡ i ∷ links_from G (suc i)
unfolding links_from up_from
links-more G i h =
    let e : G.links - i ≡ suc (G.links - suc i) = omega arith in
    rw e

pub links_end : (G : Net) (i : ℕ) → G.links ≤ i → links_from G i ≡ []
unfolding links_from up_from
links_end G i h =
    let e : G.links - i ≡ 0 = omega arith in
    rw e

-- the places before j + d, j + d itself, and those after it
pub up_from-split : (d j n : ℕ) → d < n → up_from j n ≡ up_from j d ++ ((j + d) ∷ up_from (suc (j + d)) (n - suc d))
unfolding up_from
up_from-split d j zero h = absurd (omega arith)
up_from-split zero j (suc n) h =
    let e : suc n - 1 ≡ n = omega arith in
    rw (add-zero j, e)
up_from-split (suc d) j (suc n) h =
    let l : d < n = omega arith in
    let e : suc j + d ≡ j + suc d = omega arith in
    let e' : n - suc d ≡ suc n - suc (suc d) = omega arith in
    ap (λ l. j ∷ l) (rw (← e, ← e') (up_from-split d (suc j) n l))

pub links-split : (G : Net) (i : ℕ) → i < G.links → links_from G 0 ≡ up_from 0 i ++ (i ∷ links_from G (suc i))
unfolding links_from
links-split G i h =
    let e : G.links - 0 ≡ G.links = omega arith in
    let z : 0 + i ≡ i = omega arith in
    rw e (rw z at (up_from-split i 0 G.links h))

pub mem-up_from : (j n i : ℕ) → Memᴰ i (up_from j n) → (j ≤ i) × (i < j + n)
unfolding up_from
mem-up_from j zero i h = absurd (mathlib.Core.List.Memᴰ.not-nil h)
mem-up_from j (suc n) i h = go (λ h'. mem-up_from (suc j) n i h') (mathlib.Core.List.Memᴰ.cases_cons h)
  where
    go : (Memᴰ i (up_from (suc j) n) → (suc j ≤ i) × (i < suc j + n)) → (i ≡ j) ⊎ Memᴰ i (up_from (suc j) n) → (j ≤ i) × (i < j + suc n)
    go below (inl e) = omega arith
    go below (inr h') = let b = below h' in omega arith

pub up_from-mem : (j n i : ℕ) → j ≤ i → i < j + n → Memᴰ i (up_from j n)
unfolding up_from
up_from-mem j zero i l h = absurd (omega arith)
up_from-mem j (suc n) i l h = go (λ l' h'. up_from-mem (suc j) n i l' h') (either (eqb i j))
  where
    go : (suc j ≤ i → i < suc j + n → Memᴰ i (up_from (suc j) n)) → (eqb i j ≡ true) ⊎ (eqb i j ≡ false) → Memᴰ i (j ∷ up_from (suc j) n)
    go below (inl e) = mathlib.Core.List.Memᴰ.head (eqb-true i j e)
    go below (inr e) = let ne : ¬ (i ≡ j) = eqb-false i j e in mathlib.Core.List.Memᴰ.tail (below (omega arith) (omega arith))

pub mem-links : (G : Net) (j i : ℕ) → Memᴰ i (links_from G j) → (j ≤ i) × (i < G.links)
unfolding links_from
mem-links G j i h = let b = mem-up_from j (G.links - j) i h in omega arith

pub links-mem : (G : Net) (j i : ℕ) → j ≤ i → i < G.links → Memᴰ i (links_from G j)
unfolding links_from
links-mem G j i l h = up_from-mem j (G.links - j) i l (omega arith)

-- ---- nodes met

pub also-self : (f : ℕ) (met : ℕ → Bool) → also f met f ≡ true
unfolding also
also-self f met = rw (eq-eqb f f refl)

pub also-other : (f : ℕ) (met : ℕ → Bool) (n : ℕ) → ¬ (n ≡ f) → also f met n ≡ met n
unfolding also
also-other f met n h = rw (ne_eqb n f h)

-- one more, unless the node is met
abbrev tally : Bool → ℕ → ℕ
tally b k = cond b k (suc k)

unmet-same : (n : ℕ) (met met' : ℕ → Bool) → ((j : ℕ) → j < n → met j ≡ met' j) → unmet n met ≡ unmet n met'
unfolding unmet
unmet-same zero met met' h = refl
unmet-same (suc n) met met' h = ap₂ tally (h n (omega arith)) (unmet-same n met met' (λ j l. h j (omega arith)))

tally-suc : (b : Bool) (k k' : ℕ) → k ≡ suc k' → tally b k ≡ suc (tally b k')
tally-suc true k k' e = e
tally-suc false k k' e = ap suc e

-- a node more is met: one fewer is unmet
pub unmet-also : (n : ℕ) (met : ℕ → Bool) (f : ℕ) → f < n → met f ≡ false → unmet n met ≡ suc (unmet n (also f met))
unfolding unmet
unmet-also zero met f h e = absurd (omega arith)
unmet-also (suc n) met f h e = go (λ l. unmet-also n met f l e) (either (eqb f n))
  where
    go : (f < n → unmet n met ≡ suc (unmet n (also f met))) → (eqb f n ≡ true) ⊎ (eqb f n ≡ false)
        → tally (met n) (unmet n met) ≡ suc (tally (also f met n) (unmet n (also f met)))
    go below (inl q) =
        let p : f ≡ n = eqb-true f n q in
        let m : met n ≡ false = rw p at e in
        let a : also f met n ≡ true = rw (← p) (also-self f met) in
        let s : unmet n met ≡ unmet n (also f met) = unmet-same n met (also f met) (λ j l. sym (also-other f met j (omega arith))) in
        rw (m, a) (ap suc s)
    go below (inr q) =
        let ne : ¬ (f ≡ n) = eqb-false f n q in
        let a : also f met n ≡ met n = also-other f met n (omega arith) in
        rw a (tally-suc (met n) (unmet n met) (unmet n (also f met)) (below (omega arith)))

unmet-start : (n : ℕ) → unmet n (λ _. false) ≡ n
unfolding unmet
unmet-start zero = refl
unmet-start (suc n) = ap suc (unmet-start n)

-- of n nodes all but the first are unmet at the start
pub unmet-only : (n a : ℕ) → a < n → suc (unmet n (only a)) ≡ n
unfolding only
unmet-only n a h = sym (unmet-also n (λ _. false) a h refl) ∙ unmet-start n

-- ---- the routes that begin with some links

-- link i before each route on from its far end f, unless f is met
abbrev pub via : (ℕ → List (List ℕ)) → ℕ → ℕ → Bool → List (List ℕ)
via next i f b = cond b [] (map (λ r. i ∷ r) (next f))

module _ (G : Net) (next next' : ℕ → List (List ℕ)) (at : ℕ) (met : ℕ → Bool) where
  pub via-same : (i f : ℕ) (b : Bool) → (b ≡ false → next f ≡ next' f) → via next i f b ≡ via next' i f b
  via-same i f true h = refl
  via-same i f false h = ap (λ l. map (λ r. i ∷ r) l) (h refl)

  pub over-same : (i : ℕ) (o : Option ℕ) → ((f : ℕ) → o ≡ some f → met f ≡ false → next f ≡ next' f) → over next met i o ≡ over next' met i o
  unfolding over
  over-same i none h = refl
  over-same i (some f) h = via-same i f (met f) (λ e. h f refl e)

  pub tries-same : (ls : List ℕ) → ((i f : ℕ) → G.far i at ≡ some f → met f ≡ false → next f ≡ next' f)
      → tries G next at met ls ≡ tries G next' at met ls
  unfolding tries
  tries-same [] h = refl
  tries-same (i ∷ ls) h = ap₂ (λ a b. a ++ b) (over-same i (G.far i at) (λ f e m. h i f e m)) (tries-same ls h)

module _ (G : Net) (at : ℕ) (met : ℕ → Bool) where
  via-nil : (i f : ℕ) (b : Bool) → via (λ _. []) i f b ≡ []
  via-nil i f true = refl
  via-nil i f false = refl

  over-nil : (i : ℕ) (o : Option ℕ) → over (λ _. []) met i o ≡ []
  unfolding over
  over-nil i none = refl
  over-nil i (some f) = via-nil i f (met f)

  tries-nil : (ls : List ℕ) → tries G (λ _. []) at met ls ≡ []
  unfolding tries
  tries-nil [] = refl
  tries-nil (i ∷ ls) = rw (over-nil i (G.far i at), tries-nil ls)

module _ (G : Net) (next : ℕ → List (List ℕ)) (at : ℕ) (met : ℕ → Bool) where
  -- the laws that follow the code: a link that can't be passed, one to a node met, one that is passed
  pub tries-cut : (i : ℕ) (ls : List ℕ) → G.far i at ≡ none → tries G next at met (i ∷ ls) ≡ tries G next at met ls
  unfolding tries over
  tries-cut i ls e = rw e

  pub tries-met : (i : ℕ) (ls : List ℕ) (f : ℕ) → G.far i at ≡ some f → met f ≡ true → tries G next at met (i ∷ ls) ≡ tries G next at met ls
  unfolding tries over
  tries-met i ls f e m = rw (e, m)

  pub tries-over : (i : ℕ) (ls : List ℕ) (f : ℕ) → G.far i at ≡ some f → met f ≡ false
      → tries G next at met (i ∷ ls) ≡ map (λ r. i ∷ r) (next f) ++ tries G next at met ls
  unfolding tries over
  tries-over i ls f e m = rw (e, m)

  pub tries-append : (a b : List ℕ) → tries G next at met (a ++ b) ≡ tries G next at met a ++ tries G next at met b
  unfolding tries
  tries-append [] b = refl
  tries-append (i ∷ a) b = rw (tries-append a b, append_assoc)

  -- who is among them
  pub record Begun (ls : List ℕ) (r : List ℕ) : Type 0 where
    pub link : ℕ
    pub to : ℕ
    pub rest : List ℕ
    pub is : r ≡ link ∷ rest
    pub among : Memᴰ link ls
    pub far : G.far link at ≡ some to
    pub unmet : met to ≡ false
    pub on : Memᴰ rest (next to)

  more : (i : ℕ) (ls r : List ℕ) → Begun ls r → Begun (i ∷ ls) r
  more i ls r b = record { link = b.link; to = b.to; rest = b.rest; is = b.is; among = mathlib.Core.List.Memᴰ.tail b.among; far = b.far; unmet = b.unmet; on = b.on }

  begun-via : (i f : ℕ) (ls r : List ℕ) → G.far i at ≡ some f → (b : Bool) → met f ≡ b → Memᴰ r (via next i f b) → Begun (i ∷ ls) r
  begun-via i f ls r e true m h = absurd (mathlib.Core.List.Memᴰ.not-nil h)
  begun-via i f ls r e false m h =
      let o = mathlib.Core.List.Memᴰ.of_map (λ r. i ∷ r) (next f) h in
      record { link = i; to = f; rest = o.0; is = sym o.2; among = mathlib.Core.List.Memᴰ.head refl; far = e; unmet = m; on = o.1 }

  begun-over : (i : ℕ) (ls r : List ℕ) (o : Option ℕ) → G.far i at ≡ o → Memᴰ r (over next met i o) → Begun (i ∷ ls) r
  unfolding over
  begun-over i ls r none e h = absurd (mathlib.Core.List.Memᴰ.not-nil h)
  begun-over i ls r (some f) e h = begun-via i f ls r e (met f) refl h

  pub begun : (ls r : List ℕ) → Memᴰ r (tries G next at met ls) → Begun ls r
  unfolding tries
  begun [] r h = absurd (mathlib.Core.List.Memᴰ.not-nil h)
  begun (i ∷ ls) r h = go (λ h'. begun ls r h') (mathlib.Core.List.Memᴰ.append_cases (over next met i (G.far i at)) h)
    where
      go : (Memᴰ r (tries G next at met ls) → Begun ls r)
          → Memᴰ r (over next met i (G.far i at)) ⊎ Memᴰ r (tries G next at met ls) → Begun (i ∷ ls) r
      go below (inl h') = begun-over i ls r (G.far i at) refl h'
      go below (inr h') = more i ls r (below h')

  pub tries-mem : (ls : List ℕ) (i f : ℕ) (r : List ℕ) → Memᴰ i ls → G.far i at ≡ some f → met f ≡ false → Memᴰ r (next f)
      → Memᴰ (i ∷ r) (tries G next at met ls)
  unfolding tries over
  tries-mem [] i f r h e m n = absurd (mathlib.Core.List.Memᴰ.not-nil h)
  tries-mem (j ∷ ls) i f r h e m n = go (λ h'. tries-mem ls i f r h' e m n) (mathlib.Core.List.Memᴰ.cases_cons h)
    where
      go : (Memᴰ i ls → Memᴰ (i ∷ r) (tries G next at met ls)) → (i ≡ j) ⊎ Memᴰ i ls
          → Memᴰ (i ∷ r) (over next met j (G.far j at) ++ tries G next at met ls)
      go below (inl q) =
          let e' : G.far j at ≡ some f = rw q at e in
          let h' : Memᴰ (i ∷ r) (over next met j (G.far j at)) = rw (e', m) (mathlib.Core.List.Memᴰ.cast (ap (λ k. k ∷ r) q) (mathlib.Core.List.Memᴰ.map (λ r. j ∷ r) n)) in
          mathlib.Core.List.Memᴰ.append_left _ h'
      go below (inr h') = mathlib.Core.List.Memᴰ.append_right (over next met j (G.far j at)) (below h')

-- ---- the list of all routes, without fuel

module _ (G : Net) (at : ℕ) (met : ℕ → Bool) where
  -- the routes from `at` that begin with a link of ls
  unfoldable pub from_links : List ℕ → List (List ℕ)
  from_links ls = tries G (λ f. all_from G f (also f met)) at met ls

  pub routes-here : (k : ℕ) → at ≡ G.goal → routes G k at met ≡ [] ∷ []
  unfolding routes
  routes-here zero h = rw (eq-eqb at G.goal h, routes)
  routes-here (suc k) h = rw (eq-eqb at G.goal h, routes)

  pub routes-none : ¬ (at ≡ G.goal) → routes G zero at met ≡ []
  unfolding routes
  routes-none h = rw (ne_eqb at G.goal h, routes)

  pub routes-on : (k : ℕ) → ¬ (at ≡ G.goal) → routes G (suc k) at met ≡ tries G (λ f. routes G k f (also f met)) at met (links_from G 0)
  unfolding routes
  routes-on k h = rw (ne_eqb at G.goal h, routes)

  pub all_here : at ≡ G.goal → all_from G at met ≡ [] ∷ []
  unfolding all_from
  all_here h = routes-here (unmet G.nodes met) h

  pub all-on : Sound G → ¬ (at ≡ G.goal) → all_from G at met ≡ from_links (links_from G 0)
  unfolding all_from from_links
  all-on sound h = go (unmet G.nodes met) refl
    where
      less : (i f : ℕ) → G.far i at ≡ some f → met f ≡ false → unmet G.nodes met ≡ suc (unmet G.nodes (also f met))
      less i f e m = unmet-also G.nodes met f (sound i at f e) m

      go : (k : ℕ) → unmet G.nodes met ≡ k → routes G k at met ≡ tries G (λ f. routes G (unmet G.nodes (also f met)) f (also f met)) at met (links_from G 0)
      go zero q = routes-none h ∙ sym (tries-same G _ (λ _. []) at met (links_from G 0) (λ i f e m. absurd (let l = less i f e m in omega arith)) ∙ tries-nil G at met (links_from G 0))
      go (suc k) q = routes-on k h ∙ tries-same G _ _ at met (links_from G 0) (λ i f e m. ap (λ j. routes G j f (also f met)) (let l = less i f e m in omega arith))

-- ---- the routes of the list are the routes

module _ (G : Net) where
  sound-here : (k at : ℕ) (met : ℕ → Bool) (r : List ℕ) → at ≡ G.goal → Memᴰ r (routes G k at met) → IsRoute G at met r
  sound-here k at met r e h =
      let q : r ≡ [] = mathlib.Core.List.Memᴰ.eq_of_singleton (rw (routes-here G at met k e) at h) in
      rw q (arrived e)

  sound-on : (k at : ℕ) (met : ℕ → Bool) (r : List ℕ) → ¬ (at ≡ G.goal)
      → ((f : ℕ) (r' : List ℕ) → Memᴰ r' (routes G k f (also f met)) → IsRoute G f (also f met) r')
      → Memᴰ r (routes G (suc k) at met) → IsRoute G at met r
  sound-on k at met r ne below h =
      let b = begun G (λ f. routes G k f (also f met)) at met (links_from G 0) r (rw (routes-on G at met k ne) at h) in
      rw b.is (passed ne (mem-links G 0 b.link b.among).1 b.far b.unmet (below b.to b.rest b.on))

  -- whatever the fuel
  pub routes-sound : (k at : ℕ) (met : ℕ → Bool) (r : List ℕ) → Memᴰ r (routes G k at met) → IsRoute G at met r
  routes-sound zero at met r h = go (either (eqb at G.goal))
    where
      go : (eqb at G.goal ≡ true) ⊎ (eqb at G.goal ≡ false) → IsRoute G at met r
      go (inl e) = sound-here zero at met r (eqb-true at G.goal e) h
      go (inr e) = absurd (mathlib.Core.List.Memᴰ.not-nil (rw (routes-none G at met (eqb-false at G.goal e)) at h))
  routes-sound (suc k) at met r h = go (λ f r' h'. routes-sound k f (also f met) r' h') (either (eqb at G.goal))
    where
      go : ((f : ℕ) (r' : List ℕ) → Memᴰ r' (routes G k f (also f met)) → IsRoute G f (also f met) r')
          → (eqb at G.goal ≡ true) ⊎ (eqb at G.goal ≡ false) → IsRoute G at met r
      go below (inl e) = sound-here (suc k) at met r (eqb-true at G.goal e) h
      go below (inr e) = sound-on k at met r (eqb-false at G.goal e) below h

  pub all_sound : (at : ℕ) (met : ℕ → Bool) (r : List ℕ) → Memᴰ r (all_from G at met) → IsRoute G at met r
  unfolding all_from
  all_sound at met r h = routes-sound (unmet G.nodes met) at met r h

  module _ (sound : Sound G) where
    pub all-complete : {at : ℕ} {met : ℕ → Bool} {r : List ℕ} → IsRoute G at met r → Memᴰ r (all_from G at met)
    unfolding from_links
    all-complete {at = at} {met = met} (arrived e) = rw (all_here G at met e) (mathlib.Core.List.Memᴰ.head refl)
    all-complete {at = at} {met = met} (passed {i = i} {f = f} {r = r} ne l e m p) =
        rw (all-on G at met sound ne)
        (tries-mem G (λ f. all_from G f (also f met)) at met (links_from G 0) i f r (links-mem G 0 i (omega arith) l) e m (all-complete p))

    -- the routes of the list are exactly the routes
    pub all_are : (at : ℕ) (met : ℕ → Bool) (r : List ℕ) → Memᴰ r (all_from G at met) ↔ IsRoute G at met r
    all_are at met r = (all_sound at met r, λ p. all-complete p)

    -- a route has at most as many links as nodes are not met
    pub route-length : {at : ℕ} {met : ℕ → Bool} {r : List ℕ} → IsRoute G at met r → length r ≤ unmet G.nodes met
    route-length (arrived e) = omega arith
    route-length {at = at} {met = met} (passed {i = i} {f = f} {r = r} ne l e m p) =
        let h : length r ≤ unmet G.nodes (also f met) = route-length p in
        omega (arith, unmet-also G.nodes met f (sound i at f e) m)

    -- with 16 nodes: at most 15
    pub route-short : (a : ℕ) → a < G.nodes → (r : List ℕ) → IsRoute G a (only a) r → length r < G.nodes
    route-short a h r p = omega (arith, route-length p, unmet-only G.nodes a h)
