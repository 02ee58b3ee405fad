-- Where one comes in who leaves a node of an accepted chart by a port.
use Prim.Native.Nat.{ℕ, ◌<◌}
use mathlib.Core.Path.{◌≡◌, refl, sym, ap, ◌∙◌}
use mathlib.Core.Bool.{true}
use mathlib.Core.Option.{Option, none, some, none-ne-some, some-injective}
use lib.Dec.{leb}
use borrow.Author.Tests.{eqb-true, eq-eqb}
use Rattle.lists.specs.Places.{first_below}
use Rattle.lists.proofs.Places.{first-only, first_found, first_below-any}
use Rattle.lists.proofs.Bools.{and_left, and_right, and_both, both_ways}
use Rattle.address.specs.declared.Port.{Port}
use Rattle.chart.specs.declared.Chart.{Chart}
use Rattle.chart_refuse.specs.Promises.{Accepted}
use Rattle.chart_net.specs.Net.{far_end}
use Rattle.class.specs.Class.{Arrival, is_there, leaves_by, came_in, came_over, out_by}
use Rattle.class.proofs.Ends.{near_of, away_of, over, away-high, one-port}

there-some : (o : Option ℕ) → is_there o ≡ true → (f : ℕ) × (o ≡ some f)
there-some none h = absurd (both_ways h refl)
there-some (some f) h = (f, refl)

in_some : (p : Port) (o : Option ℕ) (x : Arrival) → came_in p o ≡ some x → (o ≡ some x.node) × (x.port ≡ p)
in_some p none x h = absurd (none-ne-some x h)
in_some p (some f) x h =
    let e = some-injective _ _ h in
    (ap (λ (y : Arrival). some y.node) e, sym (ap (λ (y : Arrival). y.port) e))

module _ (c : Chart) (ok : Accepted c) where
  -- who leaves a by the port p goes over link i
  pub record Leaves (a : ℕ) (p : Port) (x : Arrival) (i : ℕ) : Type 0 where
    pub far : far_end c.nodes c.links i a ≡ some x.node
    pub near : p ≡ (near_of c i a).port
    pub away : x.port ≡ (away_of c i a).port

  pub leaves-over : (a : ℕ) (p : Port) (i : ℕ) → leaves_by c a p i ≡ true
      → (f : ℕ) × (far_end c.nodes c.links i a ≡ some f) × ((near_of c i a).port.0 ≡ p.0)
  unfolding leaves_by
  leaves-over a p i h =
      let far = is_there (far_end c.nodes c.links i a) in
      let w = there-some (far_end c.nodes c.links i a) (and_left far _ h) in
      (w.0, w.1, eqb-true _ _ (and_right far _ h))

  pub leaves_of : (a : ℕ) (p : Port) (x : Arrival) → out_by c a p ≡ some x → (i : ℕ) × Leaves a p x i
  unfolding out_by came_over
  leaves_of a p x e =
      let i = first_below (leaves_by c a p) c.links.count in
      let w = in_some (away_of c i a).port (far_end c.nodes c.links i a) x e in
      let f = first_found (leaves_by c a p) c.links.count (first_below-any (leaves_by c a p) c.links.count (over c ok i a x.node w.0).there) in
      let q = leaves-over a p i f.passes in
      (i, record { far = w.0; near = λ j. record { 0 = sym q.2 j }; away = w.1 })

  -- by the port of a link's near end one goes over that link
  pub out-over : (a i f : ℕ) → far_end c.nodes c.links i a ≡ some f
      → out_by c a (near_of c i a).port ≡ some (record { node = f; port = (away_of c i a).port })
  unfolding out_by came_over leaves_by
  out-over a i f e =
      let p = (near_of c i a).port in
      let o = over c ok i a f e in
      let here : leaves_by c a p i ≡ true = and_both (ap is_there e) (eq-eqb p.0 p.0 refl) in
      let one : (j : ℕ) → j < c.links.count → leaves_by c a p j ≡ true → j ≡ i =
      λ j h q. let w = leaves-over a p j q in one-port c ok a j i w.0 f (over c ok j a w.0 w.1) o w.2
      in
      ap (came_over c a) (first-only (leaves_by c a p) c.links.count i o.there here one) ∙ ap (came_in (away_of c i a).port) e

  -- one comes in at a node of the chart, by a port that is in range
  pub comes-in : (a : ℕ) (p : Port) (x : Arrival) → out_by c a p ≡ some x → (x.node < c.nodes.count) × (leb x.port.0 63 ≡ true)
  comes-in a p x e =
      let l = leaves_of a p x e in
      let o = over c ok l.0 a x.node l.1.far in
      (o.node, ap (λ (q : Port). leb q.0 63) l.1.away ∙ away-high c ok l.0 a x.node o)
