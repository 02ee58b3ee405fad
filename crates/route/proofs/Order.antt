-- The order of routes, and that the list of all routes is in it.
use mathlib.Core.Path.{◌≡◌, refl, sym, ◌∙◌, ap₂}
use mathlib.Core.Logic.{◌⊎◌, inl, inr}
use mathlib.Core.Bool.{Bool, true, false}
use mathlib.Core.Option.{Option, none, some}
use mathlib.Core.List.Memᴰ
use mathlib.Core.List.{List, [], ◌∷◌, ◌++◌, map, Memᴰ, head-eq_of_cons-eq, tail-eq_of_cons-eq}
use Prim.Native.Nat.{ℕ, zero, suc, ◌<◌}
use native.Mathlib.Omega.{arith}
use lib.Dec.{eqb}
use borrow.Author.Tests.{eqb-true, eqb-false}
use Rattle.route.proofs.Tests.{either}
use Rattle.route.proofs.Laws.{via, mem-up_from, begun, routes-here, routes-none, routes-on}
use Rattle.route.specs.Route.{Net, also, Before, smaller, alike, Increasing, NoneTwice}
use Rattle.route.specs.All.{up_from, links_from, over, tries, routes, unmet, all_from}

pub before-distinct : {r s : List ℕ} → Before r s → r ≡ s → ⊥
before-distinct (smaller l) e = let h = head-eq_of_cons-eq e in omega arith
before-distinct (alike p b) e = before-distinct b (tail-eq_of_cons-eq e)

pub before-trans : {r s u : List ℕ} → Before r s → Before s u → Before r u
before-trans (smaller {i = i} {j = j} l) (smaller {j = k} l') = let h : i < k = omega arith in smaller h
before-trans (smaller {i = i} {j = j} l) (alike {j = k} p b) = let h : i < k = omega arith in smaller h
before-trans (alike {i = i} {j = j} p b) (smaller {j = k} l) = let h : i < k = omega arith in smaller h
before-trans (alike p b) (alike p' b') = alike (p ∙ p') (before-trans b b')

pub once : (l : List (List ℕ)) → Increasing l → NoneTwice l
once [] h = tt
once (r ∷ l) h = (λ m. before-distinct (h.0 r m) refl, once l h.1)

pub inc-append : (a b : List (List ℕ)) → Increasing a → Increasing b
    → ((r s : List ℕ) → Memᴰ r a → Memᴰ s b → Before r s) → Increasing (a ++ b)
inc-append [] b ha hb h = hb
inc-append (r ∷ a) b ha hb h =
    (λ s m. go s (Memᴰ.append_cases a m), inc-append a b ha.1 hb (λ r' s m n. h r' s (Memᴰ.tail m) n))
  where
    go : (s : List ℕ) → Memᴰ s a ⊎ Memᴰ s b → Before r s
    go s (inl m) = ha.0 s m
    go s (inr m) = h r s (Memᴰ.head refl) m

pub inc-map : (i : ℕ) (l : List (List ℕ)) → Increasing l → Increasing (map (λ r. i ∷ r) l)
inc-map i [] h = tt
inc-map i (r ∷ l) h =
    (λ s m. let o = Memᴰ.of_map (λ r. i ∷ r) l m in rw (← o.2) (alike refl (h.0 o.0 o.1)), inc-map i l h.1)

module _ (G : Net) (next : ℕ → List (List ℕ)) (ordered : (f : ℕ) → Increasing (next f)) (at : ℕ) (met : ℕ → Bool) where
  inc-via : (i f : ℕ) (b : Bool) → Increasing (via next i f b)
  inc-via i f true = tt
  inc-via i f false = inc-map i (next f) (ordered f)

  inc-over : (i : ℕ) (o : Option ℕ) → Increasing (over next met i o)
  unfolding over
  inc-over i none = tt
  inc-over i (some f) = inc-via i f (met f)

  via-head : (i f : ℕ) (b : Bool) (r : List ℕ) → Memᴰ r (via next i f b) → (s : List ℕ) × (r ≡ i ∷ s)
  via-head i f true r m = absurd (Memᴰ.not-nil m)
  via-head i f false r m = let o = Memᴰ.of_map (λ r. i ∷ r) (next f) m in (o.0, sym o.2)

  over-head : (i : ℕ) (o : Option ℕ) (r : List ℕ) → Memᴰ r (over next met i o) → (s : List ℕ) × (r ≡ i ∷ s)
  unfolding over
  over-head i none r m = absurd (Memᴰ.not-nil m)
  over-head i (some f) r m = via-head i f (met f) r m

  inc-tries : (n j : ℕ) → Increasing (tries G next at met (up_from j n))
  unfolding tries up_from
  inc-tries zero j = tt
  inc-tries (suc n) j = inc-append (over next met j (G.far j at)) (tries G next at met (up_from (suc j) n)) (inc-over j (G.far j at)) (inc-tries n (suc j)) cross
    where
      cross : (r s : List ℕ) → Memᴰ r (over next met j (G.far j at)) → Memᴰ s (tries G next at met (up_from (suc j) n)) → Before r s
      cross r s m m' =
          let a = over-head j (G.far j at) r m in
          let b = begun G next at met (up_from (suc j) n) s m' in
          let l = mem-up_from (suc j) n b.link b.among in
          rw (a.1, b.is) (smaller l.0)

module _ (G : Net) where
  routes-increasing : (k at : ℕ) (met : ℕ → Bool) → Increasing (routes G k at met)
  unfolding links_from
  routes-increasing zero at met = go (either (eqb at G.goal))
    where
      go : (eqb at G.goal ≡ true) ⊎ (eqb at G.goal ≡ false) → Increasing (routes G zero at met)
      go (inl e) = rw (routes-here G at met zero (eqb-true at G.goal e)) (λ s m. absurd (Memᴰ.not-nil m), tt)
      go (inr e) = rw (routes-none G at met (eqb-false at G.goal e)) tt
  routes-increasing (suc k) at met = go (λ f. routes-increasing k f (also f met)) (either (eqb at G.goal))
    where
      go : ((f : ℕ) → Increasing (routes G k f (also f met))) → (eqb at G.goal ≡ true) ⊎ (eqb at G.goal ≡ false) → Increasing (routes G (suc k) at met)
      go below (inl e) = rw (routes-here G at met (suc k) (eqb-true at G.goal e)) (λ s m. absurd (Memᴰ.not-nil m), tt)
      go below (inr e) = rw (routes-on G at met k (eqb-false at G.goal e)) (inc-tries G (λ f. routes G k f (also f met)) below at met _ 0)

  -- the list of all routes is in order, so none stands in it twice
  pub all-increasing : (at : ℕ) (met : ℕ → Bool) → Increasing (all_from G at met)
  unfolding all_from
  all-increasing at met = routes-increasing (unmet G.nodes met) at met

  pub all_once : (at : ℕ) (met : ℕ → Bool) → NoneTwice (all_from G at met)
  all_once at met = once (all_from G at met) (all-increasing at met)

-- ---- least and next in a list that is in order

-- the head of the list is the least of it
pub head-least : (r : List ℕ) (l : List (List ℕ)) → Increasing (r ∷ l) → (s : List ℕ) → Memᴰ s (r ∷ l) → (s ≡ r) ⊎ Before r s
head-least r l h s m = go (Memᴰ.cases_cons m)
  where
    go : (s ≡ r) ⊎ Memᴰ s l → (s ≡ r) ⊎ Before r s
    go (inl e) = inl e
    go (inr m') = inr (h.0 s m')

-- two lists in order with the same routes are one list
pub inc-unique : (l l' : List (List ℕ)) → Increasing l → Increasing l' → ((r : List ℕ) → Memᴰ r l → Memᴰ r l')
    → ((r : List ℕ) → Memᴰ r l' → Memᴰ r l) → l ≡ l'
inc-unique [] [] h h' to from = refl
inc-unique [] (y ∷ b) h h' to from = absurd (Memᴰ.not-nil (from y (Memᴰ.head refl)))
inc-unique (x ∷ a) [] h h' to from = absurd (Memᴰ.not-nil (to x (Memᴰ.head refl)))
inc-unique (x ∷ a) (y ∷ b) h h' to from =
    ap₂ (λ p q. p ∷ q) e (inc-unique a b h.1 h'.1 (λ r m. down x y e a b h.0 r m (to r (Memᴰ.tail m))) (λ r m. down y x (sym e) b a h'.0 r m (from r (Memᴰ.tail m))))
  where
    heads : (x ≡ y) ⊎ Before y x → (y ≡ x) ⊎ Before x y → x ≡ y
    heads (inl e) q = e
    heads (inr p) (inl e) = sym e
    heads (inr p) (inr q) = absurd (before-distinct (before-trans p q) refl)

    e : x ≡ y
    e = heads (head-least y b h' x (to x (Memᴰ.head refl))) (head-least x a h y (from y (Memᴰ.head refl)))

    down : (x y : List ℕ) → x ≡ y → (a b : List (List ℕ)) → ((s : List ℕ) → Memᴰ s a → Before x s) → (r : List ℕ) → Memᴰ r a → Memᴰ r (y ∷ b) → Memᴰ r b
    down x y e a b h r m n = pick (Memᴰ.cases_cons n)
      where
        pick : (r ≡ y) ⊎ Memᴰ r b → Memᴰ r b
        pick (inl q) = absurd (before-distinct (h r m) (e ∙ sym q))
        pick (inr k) = k
