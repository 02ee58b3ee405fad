-- The first route and the next, step by step: the laws that a search follows, and that first and next after each give the whole list.
use mathlib.Core.Path.{◌≡◌, refl, sym, ◌∙◌, ap}
use mathlib.Core.Logic.{◌⊎◌, inl, inr}
use mathlib.Core.Bool.{Bool, true, false, not, ◌&&◌}
use mathlib.Core.Option.{Option, none, some}
use mathlib.Core.List.{List, [], ◌∷◌, ◌++◌, map, append_assoc, append-nil, Memᴰ, head-eq_of_cons-eq}
use Prim.Native.Nat.{ℕ, suc, ◌<◌, ◌≤◌}
use native.Mathlib.Omega.{arith}
use lib.Dec.{eqb, ltb}
use borrow.Author.Tests.{ltb-true, lt-ltb, eqb-true, eqb-false, eq-eqb, ne_eqb, not-true}
use Rattle.lists.proofs.Bools.{and_left, and_right, both_ways}
use Rattle.route.proofs.Tests.{either, same_of, same-yes}
use Rattle.route.proofs.Laws.{links-more, links_end, links-split, mem-up_from, tries-cut, tries-met, tries-over, tries-append, begun, from_links, all_here, all-on, all-complete}
use Rattle.route.proofs.Order.{all_once}
use Rattle.route.specs.Route.{Net, Sound, also, IsRoute, arrived, passed, NoneTwice}
use Rattle.route.specs.All.{up_from, links_from, tries, all_from, Finding, route, no_more, no_route, first_of, same_links, next_of}
use Rattle.route.specs.Private.{least_try, least_from, goes_on, is_route}
use Rattle.route.specs.Promises.{Gives, ended, another}

-- the first answer, or the later one where it has no more
unfoldable pub or_later : Finding → Finding → Finding
or_later (route r) b = route r
or_later no_more b = b
or_later no_route b = no_route

-- the answer with link i before its route
unfoldable pub behind : ℕ → Finding → Finding
behind i (route r) = route (i ∷ r)
behind i no_more = no_more
behind i no_route = no_route

-- ---- answers

pub first-append : (a b : List (List ℕ)) → first_of (a ++ b) ≡ or_later (first_of a) (first_of b)
unfolding first_of or_later
first-append [] b = refl
first-append (r ∷ a) b = refl

pub first-map : (i : ℕ) (l : List (List ℕ)) → first_of (map (λ r. i ∷ r) l) ≡ behind i (first_of l)
unfolding first_of behind
first-map i [] = refl
first-map i (r ∷ l) = refl

-- ---- what follows in a list

pub next-found : (s : List ℕ) (l : List (List ℕ)) (r : List ℕ) → s ≡ r → next_of (s ∷ l) r ≡ first_of l
unfolding next_of
next-found s l r e = rw (same_of s r e, next_of)

pub next_past : (s : List ℕ) (l : List (List ℕ)) (r : List ℕ) → same_links s r ≡ false → next_of (s ∷ l) r ≡ next_of l r
unfolding next_of
next_past s l r e = rw (e, next_of)

-- a list that does not have it is passed over
pub next-miss : (a b : List (List ℕ)) (r : List ℕ) → (Memᴰ r a → ⊥) → next_of (a ++ b) r ≡ next_of b r
next-miss [] b r h = refl
next-miss (s ∷ a) b r h = go (either (same_links s r)) ∙ next-miss a b r (λ m. h (mathlib.Core.List.Memᴰ.tail m))
  where
    go : (same_links s r ≡ true) ⊎ (same_links s r ≡ false) → next_of (s ∷ (a ++ b)) r ≡ next_of (a ++ b) r
    go (inl e) = absurd (h (mathlib.Core.List.Memᴰ.head (sym (same-yes s r e))))
    go (inr e) = next_past s (a ++ b) r e

pub next-absent : (l : List (List ℕ)) (r : List ℕ) → (Memᴰ r l → ⊥) → next_of l r ≡ no_route
unfolding next_of
next-absent l r h = ap (λ k. next_of k r) (sym (append-nil l)) ∙ next-miss l [] r h

pub next-hit : (a b : List (List ℕ)) (r : List ℕ) → Memᴰ r a → next_of (a ++ b) r ≡ or_later (next_of a r) (first_of b)
next-hit [] b r m = absurd (mathlib.Core.List.Memᴰ.not-nil m)
next-hit (s ∷ a) b r m = go (λ m'. next-hit a b r m') (either (same_links s r))
  where
    tail : (s ≡ r → ⊥) → (r ≡ s) ⊎ Memᴰ r a → Memᴰ r a
    tail n (inl e) = absurd (n (sym e))
    tail n (inr m') = m'

    go : (Memᴰ r a → next_of (a ++ b) r ≡ or_later (next_of a r) (first_of b)) → (same_links s r ≡ true) ⊎ (same_links s r ≡ false)
        → next_of (s ∷ (a ++ b)) r ≡ or_later (next_of (s ∷ a) r) (first_of b)
    go below (inl e) =
        let q : s ≡ r = same-yes s r e in
        rw (next-found s (a ++ b) r q, next-found s a r q) (first-append a b)
    go below (inr e) =
        let n : s ≡ r → ⊥ = λ q. both_ways (same_of s r q) e in
        rw (next_past s (a ++ b) r e, next_past s a r e) (below (tail n (mathlib.Core.List.Memᴰ.cases_cons m)))

pub next_map : (i : ℕ) (l : List (List ℕ)) (r : List ℕ) → next_of (map (λ r. i ∷ r) l) (i ∷ r) ≡ behind i (next_of l r)
unfolding next_of behind same_links
next_map i [] r = refl
next_map i (s ∷ l) r = go (next_map i l r) (either (same_links s r))
  where
    skip : same_links (i ∷ s) (i ∷ r) ≡ same_links s r
    skip = rw (eq-eqb i i refl)

    go : next_of (map (λ r. i ∷ r) l) (i ∷ r) ≡ behind i (next_of l r) → (same_links s r ≡ true) ⊎ (same_links s r ≡ false)
        → next_of ((i ∷ s) ∷ map (λ r. i ∷ r) l) (i ∷ r) ≡ behind i (next_of (s ∷ l) r)
    go below (inl e) = rw (next-found s l r (same-yes s r e), next-found (i ∷ s) (map (λ r. i ∷ r) l) (i ∷ r) (ap (λ k. i ∷ k) (same-yes s r e))) (first-map i l)
    go below (inr e) = next_past (i ∷ s) (map (λ r. i ∷ r) l) (i ∷ r) (skip ∙ e) ∙ below ∙ ap (behind i) (sym (next_past s l r e))

-- ---- the least route: the laws that the trace follows

module _ (G : Net) (at : ℕ) (met : ℕ → Bool) where
  pub least-here : at ≡ G.goal → least_from G at met ≡ route []
  unfolding least_from first_of
  least-here e = rw (all_here G at met e)

  pub least_on : Sound G → ¬ (at ≡ G.goal) → least_from G at met ≡ least_try G at met 0
  unfolding least_from least_try from_links
  least_on sound ne = ap first_of (all-on G at met sound ne)

  pub try-end : (j : ℕ) → G.links ≤ j → least_try G at met j ≡ no_more
  unfolding least_try tries first_of
  try-end j h = rw (links_end G j h)

  pub try-cut : (j : ℕ) → j < G.links → G.far j at ≡ none → least_try G at met j ≡ least_try G at met (suc j)
  unfolding least_try
  try-cut j h e = rw (links-more G j h) (ap first_of (tries-cut G _ at met j _ e))

  pub try-met : (j : ℕ) → j < G.links → (f : ℕ) → G.far j at ≡ some f → met f ≡ true → least_try G at met j ≡ least_try G at met (suc j)
  unfolding least_try
  try-met j h f e m = rw (links-more G j h) (ap first_of (tries-met G _ at met j _ f e m))

  pub try-over : (j : ℕ) → j < G.links → (f : ℕ) → G.far j at ≡ some f → met f ≡ false
      → least_try G at met j ≡ or_later (behind j (least_from G f (also f met))) (least_try G at met (suc j))
  unfolding least_try least_from
  try-over j h f e m =
      rw (links-more G j h)
      (ap first_of (tries-over G _ at met j _ f e m) ∙ first-append _ _ ∙ ap (λ a. or_later a (least_try G at met (suc j))) (first-map j _))

-- ---- next

module _ (G : Net) (sound : Sound G) where
  -- after i ∷ r: that after r from where i leads, with i before it; or else the least that begins with a later link
  pub next-on : (at i f : ℕ) (met : ℕ → Bool) (r : List ℕ) → ¬ (at ≡ G.goal) → i < G.links → G.far i at ≡ some f → met f ≡ false
      → IsRoute G f (also f met) r
      → next_of (all_from G at met) (i ∷ r) ≡ or_later (behind i (next_of (all_from G f (also f met)) r)) (least_try G at met (suc i))
  unfolding from_links least_try
  next-on at i f met r ne l e m p =
      rw (all-on G at met sound ne, links-split G i l, tries-append G next at met, tries-over G next at met i (links_from G (suc i)) f e m)
      (next-miss (tries G next at met (up_from 0 i)) _ (i ∷ r) smaller
      ∙ next-hit (map (λ r. i ∷ r) (next f)) _ (i ∷ r) (mathlib.Core.List.Memᴰ.map (λ r. i ∷ r) (all-complete G sound p))
      ∙ ap (λ a. or_later a (first_of (tries G next at met (links_from G (suc i))))) (next_map i (next f) r))
    where
      next : ℕ → List (List ℕ)
      next f = all_from G f (also f met)

      smaller : Memᴰ (i ∷ r) (tries G next at met (up_from 0 i)) → ⊥
      smaller h =
          let b = begun G next at met (up_from 0 i) (i ∷ r) h in
          let q = head-eq_of_cons-eq b.is in
          let u = mem-up_from 0 i b.link b.among in
          omega arith

-- ---- first, and then next after each

-- what follows r where r stands once
next-at : (a : List (List ℕ)) (r : List ℕ) (b : List (List ℕ)) → (Memᴰ r a → ⊥) → next_of (a ++ (r ∷ b)) r ≡ first_of b
next-at a r b h = next-miss a (r ∷ b) r h ∙ next-found r b r refl

once-split : (a : List (List ℕ)) (r : List ℕ) (b : List (List ℕ)) → NoneTwice (a ++ (r ∷ b)) → Memᴰ r a → ⊥
once-split [] r b n m = mathlib.Core.List.Memᴰ.not-nil m
once-split (s ∷ a) r b n m = go (λ m'. once-split a r b n.1 m') (mathlib.Core.List.Memᴰ.cases_cons m)
  where
    go : (Memᴰ r a → ⊥) → (r ≡ s) ⊎ Memᴰ r a → ⊥
    go below (inl e) = n.0 (mathlib.Core.List.Memᴰ.append_right a (mathlib.Core.List.Memᴰ.head (sym e)))
    go below (inr m') = below m'

gives-rest : (l a b : List (List ℕ)) → l ≡ a ++ b → NoneTwice l → Gives (next_of l) (first_of b) b
unfolding first_of
gives-rest l a [] e n = ended
gives-rest l a (r ∷ b) e n =
    let h : Memᴰ r a → ⊥ = once-split a r b (rw e at n) in
    let q : next_of l r ≡ first_of b = rw e (next-at a r b h) in
    let g : Gives (next_of l) (next_of l r) b = rw q (gives-rest l (a ++ (r ∷ [])) b (rw append_assoc e) n) in
    another g

pub gives-list : (l : List (List ℕ)) → NoneTwice l → Gives (next_of l) (first_of l) l
gives-list l n = gives-rest l [] l refl n

module _ (G : Net) where
  pub gives_all : (at : ℕ) (met : ℕ → Bool) → Gives (next_of (all_from G at met)) (first_of (all_from G at met)) (all_from G at met)
  gives_all at met = gives-list (all_from G at met) (all_once G at met)

-- ---- the test for a route

pub goes_on-tells : (met next : ℕ → Bool) (o : Option ℕ) → goes_on met next o ≡ true → (f : ℕ) × (o ≡ some f) × (met f ≡ false) × (next f ≡ true)
unfolding goes_on
goes_on-tells met next none e = absurd (both_ways e refl)
goes_on-tells met next (some f) e = (f, refl, not-true (met f) (and_left (not (met f)) (next f) e), and_right (not (met f)) (next f) e)

module _ (G : Net) where
  pub is_route-yes : (at : ℕ) (met : ℕ → Bool) (r : List ℕ) → is_route G at met r ≡ true → IsRoute G at met r
  unfolding is_route
  is_route-yes at met [] e = arrived (eqb-true at G.goal e)
  is_route-yes at met (i ∷ r) e =
      let on = goes_on met (λ f. is_route G f (also f met) r) (G.far i at) in
      let rest : (ltb i G.links && on) ≡ true = and_right (not (eqb at G.goal)) _ e in
      let c = goes_on-tells met (λ f. is_route G f (also f met) r) (G.far i at) (and_right (ltb i G.links) _ rest) in
      passed (eqb-false at G.goal (not-true _ (and_left (not (eqb at G.goal)) _ e))) (ltb-true i G.links (and_left (ltb i G.links) _ rest))
      c.1 c.2 (is_route-yes c.0 (also c.0 met) r c.3)

  pub is_route-of : {at : ℕ} {met : ℕ → Bool} {r : List ℕ} → IsRoute G at met r → is_route G at met r ≡ true
  unfolding is_route goes_on
  is_route-of {at = at} (arrived e) = eq-eqb at G.goal e
  is_route-of {at = at} {met = met} (passed {i = i} {f = f} {r = r} ne l e m p) =
      rw (ne_eqb at G.goal ne, lt-ltb i G.links l, e, m, is_route-of p)
