-- The route with the fewest links: what the definition gives is that route, and it has as many links as the goal is away.
use mathlib.Core.Path.{◌≡◌, refl, sym, ap, subst}
use mathlib.Core.Logic.{◌⊎◌, inl, inr}
use mathlib.Core.Bool.{true}
use mathlib.Core.Option.{Option, none, some}
use mathlib.Core.List.{List}
use Prim.Native.Nat.{ℕ, ◌<◌}
use native.Mathlib.Omega.{arith}
use lib.ListN.{length}
use Rattle.lists.proofs.Bools.{no_true}
use Rattle.route.specs.Route.{Net, Sound, only, RouteFrom, Before}
use Rattle.route.specs.All.{all_from, all_routes}
use Rattle.route.proofs.Laws.{all_are}
use Rattle.route.proofs.Order.{before-distinct, before-trans, all-increasing}
use Rattle.route_fewest.specs.Fewest.{fewest_from, near}
use Rattle.route_fewest.specs.Promises.{Fewest, Away}
use Rattle.route_fewest.proofs.Listed.{SaysFewest, says-fewest}
use Rattle.route_fewest.proofs.Near.{near-route, away_of, open-only, Routed, route-of}

module _ (G : Net) (sound : Sound G) where
  -- ---- the definition and the words

  all-says : (a : ℕ) (o : Option (List ℕ)) → fewest_from G a ≡ o → SaysFewest (all_from G a (only a)) o
  unfolding fewest_from all_routes
  all-says a o e = subst (λ (x : Option (List ℕ)). SaysFewest (all_from G a (only a)) x) e (says-fewest (all_from G a (only a)) (all-increasing G a (only a)))

  pub fewest-of : (a : ℕ) (r : List ℕ) → fewest_from G a ≡ some r → Fewest G a r
  fewest-of a r e =
      let f = all-says a (some r) e in
      record {
        route = (all_are G sound a (only a) r).0 f.it;
        fewest = λ q p. f.fewest q ((all_are G sound a (only a) q).1 p);
        first = λ q p z. f.first q ((all_are G sound a (only a) q).1 p) z;
      }

  pub none_of : (a : ℕ) → fewest_from G a ≡ none → (r : List ℕ) → RouteFrom G a r → ⊥
  none_of a e r p = all-says a none e r ((all_are G sound a (only a) r).1 p)

  two-fewest : (a : ℕ) (r s : List ℕ) → Fewest G a r → Fewest G a s → s ≡ r
  two-fewest a r s f g =
      let x = f.fewest s g.route in
      let y = g.fewest r f.route in
      let z : length r ≡ length s = omega arith in
      go (g.first r f.route z) (f.first s g.route (sym z))
    where
      go : (r ≡ s) ⊎ Before s r → (s ≡ r) ⊎ Before r s → s ≡ r
      go (inl e) w = sym e
      go (inr b) (inl e) = e
      go (inr b) (inr b') = absurd (before-distinct (before-trans b b') refl)

  pub fewest-from : (a : ℕ) (r : List ℕ) → Fewest G a r → fewest_from G a ≡ some r
  fewest-from a r f = go (fewest_from G a) refl
    where
      go : (o : Option (List ℕ)) → fewest_from G a ≡ o → o ≡ some r
      go none e = absurd (none_of a e r f.route)
      go (some s) e = ap some (two-fewest a r s f (fewest-of a s e))

  pub none_from : (a : ℕ) → ((r : List ℕ) → RouteFrom G a r → ⊥) → fewest_from G a ≡ none
  none_from a n = go (fewest_from G a) refl
    where
      go : (o : Option (List ℕ)) → fewest_from G a ≡ o → o ≡ none
      go none e = refl
      go (some s) e = absurd (n s (fewest-of a s e).route)

  -- ---- how far

  pub route-away : (k a : ℕ) → Away G k a → Routed G k a (only a)
  route-away k a w = route-of G k a (only a) w (open-only G k a w)

  pub fewest-away : (a : ℕ) (r : List ℕ) → Fewest G a r → Away G (length r) a
  fewest-away a r f = record { within = near-route G f.route; least = λ j l. no_true (none-nearer j l) }
    where
      none-nearer : (j : ℕ) → j < length r → near G j a ≡ true → ⊥
      none-nearer j l q =
          let w = away_of G j a q in
          let t = route-away w.0 a w.2 in
          let x = f.fewest t.links t.route in
          let y = t.size in
          let z = w.1 in
          omega arith

  pub away-route : (a : ℕ) (r : List ℕ) → RouteFrom G a r → (k : ℕ) × Away G k a
  away-route a r p = let w = away_of G (length r) a (near-route G p) in (w.0, w.2)
