-- The flood backwards from the goal, over tests of nodes and of links: the nodes seen that are not met are those from which the goal is reached over such nodes
-- alone. So a live link begins a route; and when it has ended, each link that begins one is live.
use mathlib.Core.Path.{◌≡◌, refl, sym, ◌∙◌, ap, subst}
use mathlib.Core.Logic.{◌⊎◌, inl, inr}
use mathlib.Core.Bool.{Bool, true, false, not, ◌||◌, ◌&&◌}
use mathlib.Core.Option.{some}
use mathlib.Core.List.{List, [], ◌∷◌}
use Prim.Native.Nat.{ℕ, ◌<◌, ◌≤◌}
use native.Mathlib.Omega.{arith}
use borrow.Author.Tests.{eqb-true, eq-eqb}
use lib.Dec.{eqb}
use Rattle.lists.proofs.Bools.{or_right, or-neither, or-no-left, or-no-right, no_true, both_ways}
use Rattle.route.specs.Route.{Net, also, IsRoute, arrived, passed}
use Rattle.route.specs.All.{unmet}
use Rattle.route.proofs.Laws.{unmet-also}
use Rattle.route_links.proofs.Standing.{unmet-most}

pub or_cases : (x y : Bool) → (x || y) ≡ true → (x ≡ true) ⊎ (y ≡ true)
or_cases true y e = inl refl
or_cases false y e = inr e

-- where fewer nodes are met, a route stays one
pub route-stays : (G : Net) {at : ℕ} {met less : ℕ → Bool} {r : List ℕ} → ((n : ℕ) → met n ≡ false → less n ≡ false) → IsRoute G at met r → IsRoute G at less r
unfolding also
route-stays G h (arrived e) = arrived e
route-stays G {met = met} {less = less} h (passed {f = f} ne l e m p) = passed ne l e (h f m) (route-stays G fewer p)
  where
    fewer : (n : ℕ) → (eqb n f || met n) ≡ false → (eqb n f || less n) ≡ false
    fewer n q = go (eqb n f) q
      where
        go : (b : Bool) → (b || met n) ≡ false → (b || less n) ≡ false
        go true z = z
        go false z = h n z

module _ (G : Net) (met : ℕ → Bool) where
  -- a node that the flood has come to
  pub record Come (those : ℕ → Bool) (n : ℕ) : Type 0 where
    pub seen : those n ≡ true
    pub unmet : met n ≡ false

  -- all others, as if they were met
  unfoldable pub beyond : (ℕ → Bool) → ℕ → Bool
  beyond seen n = not (seen n && not (met n))

  pub come-inside : (seen : ℕ → Bool) (n : ℕ) → Come seen n → beyond seen n ≡ false
  unfolding beyond
  come-inside seen n c = rw (c.seen, c.unmet) refl

  pub inside-come : (seen : ℕ → Bool) (n : ℕ) → beyond seen n ≡ false → Come seen n
  unfolding beyond
  inside-come seen n e = go (seen n) refl (met n) refl e
    where
      go : (x : Bool) → seen n ≡ x → (y : Bool) → met n ≡ y → not (x && not y) ≡ false → Come seen n
      go true p true q k = absurd (both_ways refl k)
      go true p false q k = record { seen = p; unmet = q }
      go false p y q k = absurd (both_ways refl k)

  -- the flood has gone on from the node n: the links to it are live, and where they come from is seen
  pub record Spread (seen live : ℕ → Bool) (n : ℕ) : Type 0 where
    pub lit : (i a : ℕ) → G.far i a ≡ some n → live i ≡ true
    pub beside : (i a : ℕ) → G.far i a ≡ some n → seen a ≡ true

  -- the flood from the goal, over nodes that are not met; those of `front` are still to be gone on from, in so many turns at most
  pub record Flooding (front seen live : ℕ → Bool) (left : ℕ) : Type 0 where
    pub start : seen G.goal ≡ true
    pub shut : (n : ℕ) → met n ≡ true → seen n ≡ true
    pub inside : (n : ℕ) → front n ≡ true → Come seen n
    pub done : (n : ℕ) → Come seen n → front n ≡ false → Spread seen live n
    pub reach : (n : ℕ) → Come seen n → (r : List ℕ) × IsRoute G n (also n (beyond seen)) r
    pub lit : (i : ℕ) → live i ≡ true → (n : ℕ) × (Come seen n × ((a : ℕ) × (G.far i a ≡ some n)))
    pub turns : unmet G.nodes (λ n. seen n && not (front n)) ≤ left

  pub flood-starts : met G.goal ≡ false → Flooding (λ n. eqb n G.goal) (λ n. eqb n G.goal || met n) (λ i. false) G.nodes
  flood-starts fresh =
      record {
        start = rw (eq-eqb G.goal G.goal refl) refl;
        shut = λ n e. rw e (or_right (eqb n G.goal));
        inside = λ n e. record { seen = rw e refl; unmet = ap met (eqb-true n G.goal e) ∙ fresh };
        done = λ n c e. absurd (both_ways (goal c) e);
        reach = λ n c. ([], arrived (eqb-true n G.goal (goal c)));
        lit = λ i e. absurd (both_ways e refl);
        turns = unmet-most G.nodes _;
      }
    where
      goal : {n : ℕ} → Come (λ n. eqb n G.goal || met n) n → eqb n G.goal ≡ true
      goal {n} c = go (or_cases (eqb n G.goal) (met n) c.seen)
        where
          go : (eqb n G.goal ≡ true) ⊎ (met n ≡ true) → eqb n G.goal ≡ true
          go (inl e) = e
          go (inr e) = absurd (both_ways e c.unmet)

  -- when it has ended
  module _ (front seen live : ℕ → Bool) (left : ℕ) (F : Flooding front seen live left) where
    -- no turn is left: no node is
    pub flood-over : (b : ℕ) → b < G.nodes → left ≡ 0 → front b ≡ false
    flood-over b l z = no_true (λ e. absurd (let k = unmet-also G.nodes (λ n. seen n && not (front n)) b l (rw e (off (seen b))) in let h = F.turns in omega arith))
      where
        off : (x : Bool) → (x && false) ≡ false
        off true = refl
        off false = refl

    -- a live link from a node that is met, to one that is not, begins a route
    pub live-begins : (i at f : ℕ) → ((a f b g : ℕ) → G.far i a ≡ some f → G.far i b ≡ some g → (g ≡ a) ⊎ (g ≡ f)) → i < G.links → (at ≡ G.goal → ⊥)
        → met at ≡ true → G.far i at ≡ some f → met f ≡ false → live i ≡ true → (r : List ℕ) × IsRoute G at met (i ∷ r)
    unfolding also
    live-begins i at f ends l ne m q k e =
        let w = F.lit i e in
        go w.0 w.1.0 (ends at f w.1.1.0 w.0 q w.1.1.1)
      where
        go : (n : ℕ) → Come seen n → (n ≡ at) ⊎ (n ≡ f) → (r : List ℕ) × IsRoute G at met (i ∷ r)
        go n c (inl z) = absurd (both_ways m (ap met (sym z) ∙ c.unmet))
        go n c (inr z) =
            let w = F.reach f (subst (λ (x : ℕ). Come seen x) z c) in
            (w.0, passed ne l q k (route-stays G less w.1))
          where
            less : (x : ℕ) → also f (beyond seen) x ≡ false → also f met x ≡ false
            less x h = or-neither (or-no-left (eqb x f) (beyond seen x) h) (inside-come seen x (or-no-right (eqb x f) (beyond seen x) h)).unmet

    module _ (over : (n : ℕ) → front n ≡ false) where
      -- where a route leads on from a node over nodes that are not met, the flood has come
      come-there : {a : ℕ} {m : ℕ → Bool} {r : List ℕ} → IsRoute G a m r → ((n : ℕ) → m n ≡ false → met n ≡ false) → seen a ≡ true
      unfolding also
      come-there (arrived e) h = ap seen e ∙ F.start
      come-there {a = a} {m = m} (passed {i = i} {f = f} ne l q k p) h =
          let s = come-there p (λ n z. h n (or-no-right (eqb n f) (m n) z)) in
          (F.done f (record { seen = s; unmet = h f k }) (over f)).beside i a q

      -- a link that begins a route is live
      pub begins-live : (at i : ℕ) (r : List ℕ) → IsRoute G at met (i ∷ r) → live i ≡ true
      unfolding also
      begins-live at i r (passed {f = f} ne l q k p) =
          (F.done f (record { seen = come-there p (λ n z. or-no-right (eqb n f) (met n) z); unmet = k }) (over f)).lit i at q
