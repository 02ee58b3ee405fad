-- The rest of a route with the fewest links has the fewest from where it begins: a shortest route never comes back to the node before it.
use mathlib.Core.Path.{◌≡◌, ap}
use mathlib.Core.Logic.{◌⊎◌, inl, inr}
use mathlib.Core.Bool.{Bool, true, false}
use mathlib.Core.Option.{some}
use mathlib.Core.List.{List, ◌∷◌, tail-eq_of_cons-eq}
use Prim.Native.Nat.{ℕ, suc, ◌<◌, ◌≤◌}
use native.Mathlib.Omega.{arith}
use lib.Dec.{ltb}
use lib.ListN.{length}
use borrow.Author.Tests.{ltb-true, ltb-false}
use Rattle.lists.proofs.Bools.{both_ways}
use Rattle.route.proofs.Tests.{either}
use Rattle.route.specs.Route.{Net, Sound, also, only, IsRoute, arrived, passed, RouteFrom, Before, smaller, alike}
use Rattle.route_fewest.specs.Promises.{Fewest, Away}
use Rattle.route_fewest.proofs.Near.{near-route, away-on, Open, open-only, open-on}
use Rattle.route_fewest.proofs.Routes.{fewest-away}

module _ (G : Net) where
  -- a route as short as can be is one whatever farther nodes are met
  route-open : {a : ℕ} {met met' : ℕ → Bool} {r : List ℕ} → IsRoute G a met r → Away G (length r) a → Open G (length r) met' → IsRoute G a met' r
  route-open (arrived e) w o = arrived e
  route-open {a = a} {met' = met'} (passed {i = i} {f = f} {r = r} ne l e m p) w o =
      let v = away-on G (length r) a i f w l e (near-route G p) in
      passed ne l e (o f (length r) (omega arith) v.within) (route-open p v (open-on G (length r) f met' v o))

  -- no route is shorter than the goal is away
  pub no-shorter : (k a : ℕ) → Away G k a → (q : List ℕ) → RouteFrom G a q → k ≤ length q
  no-shorter k a w q p = go (either (ltb (length q) k))
    where
      go : (ltb (length q) k ≡ true) ⊎ (ltb (length q) k ≡ false) → k ≤ length q
      go (inl e) = absurd (both_ways (near-route G p) (w.least (length q) (ltb-true (length q) k e)))
      go (inr e) = let h = ltb-false (length q) k e in omega arith

  rest-first : (i : ℕ) (q r : List ℕ) → (i ∷ q ≡ i ∷ r) ⊎ Before (i ∷ r) (i ∷ q) → (q ≡ r) ⊎ Before r q
  rest-first i q r (inl e) = inl (tail-eq_of_cons-eq e)
  rest-first i q r (inr (smaller l)) = absurd (omega arith)
  rest-first i q r (inr (alike e b)) = inr b

  module _ (sound : Sound G) (a i : ℕ) (r : List ℕ) (f : Fewest G a (i ∷ r)) where
    w : Away G (suc (length r)) a
    w = fewest-away G sound a (i ∷ r) f

    pub rest_of : (g : ℕ) → ¬ (a ≡ G.goal) → i < G.links → G.far i a ≡ some g → (met : ℕ → Bool) → IsRoute G g met r → Fewest G g r
    rest_of g ne l e met p =
        record {
          route = route-open p v (open-only G (length r) g v);
          fewest = λ q s. no-shorter (length r) g v q s;
          first = λ q s z. rest-first i q r (f.first (i ∷ q) (passed ne l e (o g (length r) (omega arith) v.within) (back q s z)) (ap suc z));
        }
      where
        v : Away G (length r) g
        v = away-on G (length r) a i g w l e (near-route G p)

        o : Open G (suc (length r)) (only a)
        o = open-only G (suc (length r)) a w

        back : (q : List ℕ) → RouteFrom G g q → length q ≡ length r → IsRoute G g (also g (only a)) q
        back q s z = route-open s (rw z v) (rw z (open-on G (length r) g (only a) v o))

pub rest : (G : Net) → Sound G → (a i : ℕ) (r : List ℕ) → Fewest G a (i ∷ r) → (f : ℕ) × (G.far i a ≡ some f) × Fewest G f r
rest G sound a i r f = go f.route
  where
    go : IsRoute G a (only a) (i ∷ r) → (g : ℕ) × (G.far i a ≡ some g) × Fewest G g r
    go (passed {f = g} ne l e m p) = (g, e, rest_of G sound a i r f g ne l e (also g (only a)) p)
