-- With the tables that are written from the chart a message goes along the first route with the fewest links: each step comes one link nearer, so that no node
-- is met twice, and the link to leave by is never the one that it came in by.
use Prim.Native.Nat.{ℕ, zero, suc, ◌<◌}
use mathlib.Core.Path.{◌≡◌, refl, sym, ap, ◌∙◌, subst}
use mathlib.Core.Bool.{Bool, true, false}
use mathlib.Core.Option.{some}
use mathlib.Core.List.{List, [], ◌∷◌}
use native.Mathlib.Omega.{arith}
use lib.ListN.{length}
use Rattle.lists.proofs.Bools.{and_both}
use Rattle.address.specs.declared.Port.{Port}
use Rattle.address.specs.declared.Address.{Address}
use Rattle.address.specs.Address.{station_of, in_range}
use Rattle.table.specs.declared.Table.{Table}
use Rattle.table.specs.Table.{call_in_range}
use Rattle.chart.specs.declared.Chart.{Chart}
use Rattle.chart_refuse.specs.Refusal.{chart_refusal}
use Rattle.chart_refuse.specs.Promises.{Accepted}
use Rattle.chart_refuse.proofs.Accepted.{accepted}
use Rattle.chart_net.specs.Net.{far_end, net_to}
use Rattle.chart_net.proofs.Kept.{net-sound}
use Rattle.route.specs.Route.{Net, Sound, also, IsRoute, arrived, RouteFrom}
use Rattle.route_links.specs.Sets.{has}
use Rattle.route_fewest.specs.Promises.{Fewest, Away}
use Rattle.route_fewest.proofs.Near.{Open, open-only, open-on, away-one}
use Rattle.route_fewest.proofs.Promises.{fewest-is-away, fewest-rest}
use Rattle.class.specs.declared.Message.{Message}
use Rattle.class.specs.Class.{under_way, delivered, without_route, Arrival, begun_at, ended_with, came_to, went_out, after_choice, step_on, steps_on, new_place, places_on}
use Rattle.class.specs.Promises.{Written, onward, along}
use Rattle.class.proofs.Ends.{near_of, away_of, Over, over, near-low, away-high, leads-back}
use Rattle.class.proofs.Ports.{out-over}
use Rattle.class.proofs.Steps.{met-only, met_new, came-new, met-new, step-moving, steps-ended, steps-more, places-ended, places-more}
use Rattle.class.proofs.Choosing.{chooses-local, chooses-out, chooses_none}

-- a route without links begins at its goal
at-goal : (G : Net) {a : ℕ} {met : ℕ → Bool} → IsRoute G a met [] → a ≡ G.goal
at-goal G (arrived e) = e

module _ (c : Chart) (right : chart_refusal c ≡ 0) (ts : ℕ → Table) (made : Written c ts) (d : Address) (to : in_range d ≡ true) where
  abbrev G : Net
  G = net_to c (station_of d)

  ok : Accepted c
  ok = accepted c right

  sound : Sound G
  sound = net-sound c ok (station_of d)

  -- under way, with the route r left: no node is met that is nearer to the destination's, and the message did not come in where it leaves
  pub record RouteLeft (r : List ℕ) (m : Message) : Type 0 where
    pub moving : m.ending ≡ under_way
    pub here : m.at < c.nodes.count
    pub fewest : Fewest G m.at r
    pub unmet : Open G (length r) (has m.met)
    pub call : call_in_range d m.arrival ≡ true
    pub other : (i : ℕ) (q : List ℕ) → r ≡ i ∷ q → (near_of c i m.at).port ≡ m.arrival → ⊥

  -- as many links as r has are left
  away : (a : ℕ) (r : List ℕ) → Fewest G a r → Away G (length r) a
  away a r f = fewest-is-away G sound a r f

  -- ---- at the destination's node

  home : (m : Message) → RouteLeft [] m → step_on c ts d m ≡ ended_with delivered m
  unfolding after_choice
  home m g =
      step-moving c ts d m g.moving
      ∙ ap (after_choice c m) (chooses-local c right ts made d m.at g.here m.arrival g.call (at-goal G g.fewest.route))

  -- ---- over a link

  module _ (i : ℕ) (r : List ℕ) (m : Message) (g : RouteLeft (i ∷ r) m) (f : ℕ) (far : far_end c.nodes c.links i m.at ≡ some f)
      (rest : Fewest G f r) where
    -- where it comes in
    abbrev next : Arrival
    next = record { node = f; port = (away_of c i m.at).port }

    crossed : Over c ok i m.at f
    crossed = over c ok i m.at f far

    -- a node that is nearer is not met
    new : has m.met f ≡ false
    new = g.unmet f (length r) (omega arith) (away f r rest).within

    goes_on : step_on c ts d m ≡ met_new m next
    unfolding after_choice went_out
    goes_on =
        step-moving c ts d m g.moving
        ∙ ap (after_choice c m) (chooses-out c right ts made d m.at g.here m.arrival g.call i r g.fewest (g.other i r refl))
        ∙ ap (went_out m) (out-over c ok m.at i f far)
        ∙ came-new m next new

    -- the link to leave by next does not lead back
    not_back : (j : ℕ) (q : List ℕ) → r ≡ j ∷ q → (near_of c j f).port ≡ (away_of c i m.at).port → ⊥
    not_back j q e z =
        let w = fewest-rest G sound f j q (subst (λ (x : List ℕ). Fewest G f x) e rest) in
        let back : w.0 ≡ m.at = leads-back c ok m.at i f j w.0 g.here crossed (over c ok j f w.0 w.1) (ap (λ (p : Port). p.0) z) in
        let near : Away G (length q) m.at = subst (λ (x : ℕ). Away G (length q) x) back (away w.0 q w.2) in
        let same : length q ≡ suc (length r) = away-one G (length q) (suc (length r)) m.at near (away m.at (i ∷ r) g.fewest) in
        let more : length r ≡ suc (length q) = ap length e in
        omega arith

    going_on : RouteLeft r (met_new m next)
    unfolding call_in_range
    going_on =
        let met : has (came_to m next).met ≡ also f (has m.met) = met-new m next (omega (arith, crossed.node, ok.few_nodes)) new in
        record {
          moving = refl;
          here = crossed.node;
          fewest = rest;
          unmet = subst (λ (t : ℕ → Bool). Open G (length r) t) (sym met) (open-on G (length r) f (has m.met) (away f r rest) g.unmet);
          call = and_both to (away-high c ok i m.at f crossed);
          other = not_back;
        }

  -- ---- the whole way

  -- what more than length r steps come to
  pub record Arrives (n : ℕ) (r : List ℕ) (m : Message) : Type 0 where
    pub way : m.at ∷ places_on c ts d n m ≡ along G r m.at
    pub ending : (steps_on c ts d n m).ending ≡ delivered

  pub arrives : (n : ℕ) (r : List ℕ) (m : Message) → length r < n → RouteLeft r m → Arrives n r m
  unfolding along new_place ended_with
  arrives zero r m l g = absurd (omega arith)
  arrives (suc n) [] m l g =
      let m' = ended_with delivered m in
      let e = home m g in
      record {
        way = ap (λ (x : List ℕ). m.at ∷ x) (places-more c ts d n m m' g.moving e ∙ places-ended c ts d n m' (λ q. omega arith));
        ending = ap (λ (x : Message). x.ending) (steps-more c ts d n m m' e ∙ steps-ended c ts d n m' (λ q. omega arith));
      }
  arrives (suc n) (i ∷ r) m l g =
      let w = fewest-rest G sound m.at i r g.fewest in
      let f = w.0 in
      let m' = met_new m (record { node = f; port = (away_of c i m.at).port }) in
      let e = goes_on i r m g f w.1 w.2 in
      let k = arrives n r m' (omega arith) (going_on i r m g f w.1 w.2) in
      record {
        way = ap (λ (x : List ℕ). m.at ∷ x) (places-more c ts d n m m' g.moving e ∙ k.way ∙ sym (ap (onward (λ x. along G r x)) w.1));
        ending = ap (λ (x : Message). x.ending) (steps-more c ts d n m m' e) ∙ k.ending;
      }

  -- ---- the start

  module _ (a : ℕ) (h : a < c.nodes.count) where
    pub starts : (r : List ℕ) → Fewest G a r → RouteLeft r (begun_at a)
    unfolding begun_at call_in_range
    starts r f =
        record {
          moving = refl;
          here = h;
          fewest = f;
          unmet = subst (λ (t : ℕ → Bool). Open G (length r) t) (sym (met-only a (omega (arith, ok.few_nodes)))) (open-only G (length r) a (away a r f));
          call = and_both to refl;
          other = other;
        }
      where
        -- no link's end has port 0
        other : (i : ℕ) (q : List ℕ) → r ≡ i ∷ q → (near_of c i a).port ≡ record { 0 = 0 } → ⊥
        other i q e z =
            let w = fewest-rest G sound a i q (subst (λ (x : List ℕ). Fewest G a x) e f) in
            let low = near-low c ok i a w.0 (over c ok i a w.0 w.1) in
            let none : (near_of c i a).port.0 ≡ 0 = ap (λ (p : Port). p.0) z in
            omega arith

    -- where there is no route it ends at once
    pub lost : ((r : List ℕ) → RouteFrom G a r → ⊥) → (n : ℕ) → (steps_on c ts d (suc n) (begun_at a)).ending ≡ without_route
    unfolding begun_at after_choice ended_with call_in_range
    lost none n =
        let m = begun_at a in
        let e : step_on c ts d m ≡ ended_with without_route m =
        step-moving c ts d m refl ∙ ap (after_choice c m) (chooses_none c right ts made d a h m.arrival (and_both to refl) none)
        in
        ap (λ (x : Message). x.ending)
        (steps-more c ts d n m (ended_with without_route m) e ∙ steps-ended c ts d n (ended_with without_route m) (λ q. omega arith))
