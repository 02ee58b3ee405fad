-- Two nets that agree on the links below their number, at their nodes, have the same routes in the same order: for a chart
-- and the arrays that the trace makes of it, and for a later arrangement of the links. The lists need not be compared: two
-- lists in order that have the same routes are equal.
use mathlib.Core.Path.{◌≡◌, sym, ◌∙◌}
use mathlib.Core.Bool.{Bool}
use mathlib.Core.List.{List}
use Prim.Native.Nat.{ℕ, ◌<◌}
use Rattle.route.proofs.Laws.{all_are}
use Rattle.route.proofs.Order.{inc-unique, all-increasing}
use Rattle.route.specs.Route.{Net, Sound, only, IsRoute, arrived, passed}
use Rattle.route.specs.All.{all_from, all_routes}

pub record Alike (G H : Net) : Type 0 where
  pub links : G.links ≡ H.links
  pub goal : G.goal ≡ H.goal
  pub far : (i a : ℕ) → i < G.links → a < G.nodes → G.far i a ≡ H.far i a

module _ (G H : Net) (same : Alike G H) (sound : Sound G) where
  there : {at : ℕ} {met : ℕ → Bool} {r : List ℕ} → at < G.nodes → IsRoute G at met r → IsRoute H at met r
  there h (arrived e) = arrived (e ∙ same.goal)
  there {at = at} h (passed {i = i} {f = f} ne l e m p) =
      let l' : i < H.links = rw same.links at l in
      passed (λ q. ne (q ∙ sym same.goal)) l' (sym (same.far i at l h) ∙ e) m (there (sound i at f e) p)

  back : {at : ℕ} {met : ℕ → Bool} {r : List ℕ} → at < G.nodes → IsRoute H at met r → IsRoute G at met r
  back h (arrived e) = arrived (e ∙ sym same.goal)
  back {at = at} h (passed {i = i} {f = f} ne l e m p) =
      let l' : i < G.links = rw (← same.links) at l in
      let e' = same.far i at l' h ∙ e in
      passed (λ q. ne (q ∙ same.goal)) l' e' m (back (sound i at f e') p)

  pub routes-agree : Sound H → (a : ℕ) → a < G.nodes → all_routes G a ≡ all_routes H a
  unfolding all_routes
  routes-agree sound' a h =
      inc-unique (all_from G a (only a)) (all_from H a (only a)) (all-increasing G a (only a)) (all-increasing H a (only a))
      (λ r m. (all_are H sound' a (only a) r).1 (there h ((all_are G sound a (only a) r).0 m)))
      (λ r m. (all_are G sound a (only a) r).1 (back h ((all_are H sound' a (only a) r).0 m)))
