-- The theorems of specs/Promises.antt, from the laws of the list of all routes.
use mathlib.Core.Path.{◌≡◌, refl, sym, ◌∙◌, ap}
use mathlib.Core.Logic.{◌⊎◌, inl, inr}
use mathlib.Core.Bool.{Bool, true, false}
use mathlib.Core.Option.{none, none-ne-some}
use mathlib.Core.List.Memᴰ
use mathlib.Core.List.{List, [], ◌∷◌, ◌++◌, Memᴰ, head-eq_of_cons-eq, tail-eq_of_cons-eq}
use Prim.Native.Nat.{ℕ, ◌<◌}
use Rattle.lists.proofs.Bools.{both_ways}
use Rattle.route.proofs.Tests.{either, same-yes, same_of}
use Rattle.route.proofs.Laws.{all_are, all_here, all_sound, route-short}
use Rattle.route.proofs.Order.{inc-unique, all-increasing, all_once}
use Rattle.route.proofs.Next.{next-found, next_past, next-absent, gives_all, is_route-yes, is_route-of}
use Rattle.route.proofs.Least.{first-least, next-least}
use Rattle.route.specs.Route.{Net, Sound, only, IsRoute, arrived, passed, RouteFrom, NoneTwice}
use Rattle.route.specs.All.{all_from, all_routes, Finding, first_of, same_links, next_of}
use Rattle.route.specs.Private.{is_route}
use Rattle.route.specs.Promises.{Gives, ended, another, EveryRoute, ListGivesAll, NoOther, FirstLeast, NextLeast, ShortRoutes, OffLinks, TwinLinks}

pub list-gives-all : ListGivesAll
unfolding all_routes
list-gives-all G sound a =
    record {
      all = all_routes G a;
      given = gives_all G a (only a);
      each = λ r. all_are G sound a (only a) r;
      once = all_once G a (only a);
      ordered = all-increasing G a (only a);
      itself = λ e. all_here G a (only a) e;
      refused = λ r n. next-absent (all_from G a (only a)) r (λ m. n (all_sound G a (only a) r m));
    }

-- ---- nothing else gives them

gives-first : {next : List ℕ → Finding} {a : Finding} {l : List (List ℕ)} → Gives next a l → a ≡ first_of l
unfolding first_of
gives-first ended = refl
gives-first (another g) = refl

gives-next : {next : List ℕ → Finding} {a : Finding} {l : List (List ℕ)} → Gives next a l → NoneTwice l → (r : List ℕ) → Memᴰ r l → next r ≡ next_of l r
gives-next ended n r m = absurd (Memᴰ.not-nil m)
gives-next {next = next} (another {r = x} {l = b} g) n r m = go (λ k. gives-next g n.1 r k) (either (same_links x r)) (Memᴰ.cases_cons m)
  where
    go : (Memᴰ r b → next r ≡ next_of b r) → (same_links x r ≡ true) ⊎ (same_links x r ≡ false) → (r ≡ x) ⊎ Memᴰ r b → next r ≡ next_of (x ∷ b) r
    go below (inl e) w = let p : x ≡ r = same-yes x r e in ap next (sym p) ∙ gives-first g ∙ sym (next-found x b r p)
    go below (inr e) (inl p) = absurd (both_ways (same_of x r (sym p)) e)
    go below (inr e) (inr k) = below k ∙ sym (next_past x b r e)

module _ (G : Net) (sound : Sound G) (a : ℕ) (first : Finding) (next : List ℕ → Finding) (d : EveryRoute G a first next) where
  all_settled : d.all ≡ all_routes G a
  unfolding all_routes
  all_settled =
      inc-unique d.all (all_routes G a) d.ordered (all-increasing G a (only a)) (λ r m. (all_are G sound a (only a) r).1 ((d.each r).0 m))
      (λ r m. (d.each r).1 ((all_are G sound a (only a) r).0 m))

  next-settled : (r : List ℕ) → next r ≡ next_of (all_routes G a) r
  unfolding all_routes
  next-settled r = go (either (is_route G a (only a) r))
    where
      go : (is_route G a (only a) r ≡ true) ⊎ (is_route G a (only a) r ≡ false) → next r ≡ next_of (all_routes G a) r
      go (inl e) = gives-next d.given d.once r ((d.each r).1 (is_route-yes G a (only a) r e)) ∙ ap (λ l. next_of l r) all_settled
      go (inr e) =
          let n : RouteFrom G a r → ⊥ = λ p. both_ways (is_route-of G p) e in
          d.refused r n ∙ sym (next-absent (all_routes G a) r (λ m. n (all_sound G a (only a) r m)))

pub no_other : NoOther
no_other G sound a first next d =
    record { first_is = gives-first d.given ∙ ap first_of (all_settled G sound a first next d); next_is = next-settled G sound a first next d }

-- ---- least, short

pub first-is-least : FirstLeast
unfolding all_routes
first-is-least G sound a = first-least G sound a (only a)

pub next-is-least : NextLeast
unfolding all_routes
next-is-least G sound a r p = next-least G sound a (only a) r p

pub short-routes : ShortRoutes
short-routes G sound a h r p = route-short G sound a h r p

-- ---- off links and twin links

module _ (G : Net) (i : ℕ) (off : (n : ℕ) → G.far i n ≡ none) where
  off-from : {at : ℕ} {met : ℕ → Bool} {r : List ℕ} → IsRoute G at met r → Memᴰ i r → ⊥
  off-from (arrived e) m = Memᴰ.not-nil m
  off-from {at = at} (passed {i = j} {f = f} {r = r} ne l e m p) h = go (off-from p) (Memᴰ.cases_cons h)
    where
      go : (Memᴰ i r → ⊥) → (i ≡ j) ⊎ Memᴰ i r → ⊥
      go below (inl q) =
          let w : G.far i at ≡ G.far j at = ap (λ (k : ℕ). G.far k at) q in
          none-ne-some f (sym (off at) ∙ w ∙ e)
      go below (inr k) = below k

pub off-links : OffLinks
off-links G a i off r p h = off-from G i off p h

module _ (G : Net) (i j : ℕ) (twins : (n : ℕ) → G.far i n ≡ G.far j n) (there : j < G.links) where
  twin-from : {at : ℕ} {met : ℕ → Bool} (p r : List ℕ) → IsRoute G at met (p ++ (i ∷ r)) → IsRoute G at met (p ++ (j ∷ r))
  twin-from {at = at} [] r (passed ne l e m q) = passed ne there (sym (twins at) ∙ e) m q
  twin-from {at = at} {met = met} (k ∷ p) r (passed {f = f} ne l e m q) = passed ne l e m (twin-from {at = f} p r q)

unlike : (i j : ℕ) → (i ≡ j → ⊥) → (p r : List ℕ) → p ++ (i ∷ r) ≡ p ++ (j ∷ r) → ⊥
unlike i j ne [] r e = ne (head-eq_of_cons-eq e)
unlike i j ne (k ∷ p) r e = unlike i j ne p r (tail-eq_of_cons-eq e)

pub twin-links : TwinLinks
twin-links G a i j twins there ne p r q = record { route = twin-from G i j twins there p r q; other = unlike i j ne p r }
