-- Where a node sends a message by the table that is written from the chart: over the first link of the first route with the fewest links.
use Prim.Native.Nat.{ℕ, ◌<◌}
use mathlib.Core.Path.{◌≡◌, refl, sym, ap, ◌∙◌, subst}
use mathlib.Core.Bool.{Bool, true}
use mathlib.Core.Option.{some-injective}
use mathlib.Core.List.{List, [], ◌∷◌, head-eq_of_cons-eq}
use Rattle.lists.proofs.Places.{any_found}
use Rattle.address.specs.declared.Port.{Port}
use Rattle.address.specs.declared.Station.{Station}
use Rattle.address.specs.declared.Address.{Address}
use Rattle.address.specs.Address.{station_of}
use Rattle.table.specs.declared.Table.{Table}
use Rattle.table.specs.Choice.{Local, Out, Refused}
use Rattle.table.specs.Table.{entry_at, call_in_range, choose_of}
use Rattle.chart.specs.declared.Chart.{Chart}
use Rattle.chart.specs.Values.{stands_at, has_node}
use Rattle.chart_refuse.specs.Refusal.{chart_refusal}
use Rattle.chart_refuse.specs.Promises.{Accepted}
use Rattle.chart_refuse.proofs.Accepted.{accepted}
use Rattle.chart_net.specs.Net.{station_place, net_to}
use Rattle.chart_net.proofs.Kept.{net-sound}
use Rattle.chart_net.proofs.Places.{station-refl, own-place}
use Rattle.route.specs.Route.{Net, Sound, IsRoute, arrived, passed, RouteFrom}
use Rattle.route_fewest.specs.Promises.{Fewest}
use Rattle.route_fewest.proofs.Promises.{fewest-is}
use Rattle.table_write.specs.Writing.{table_for}
use Rattle.table_write.specs.Promises.{HasTable, EntryFor, Choices}
use Rattle.table_write.proofs.Promises.{every-entry, every-port, every-table-choice}
use Rattle.class.specs.Promises.{Written}
use Rattle.class.proofs.Ends.{station_at, near_of, at-node}

-- ---- routes

-- there is but one
fewest-one : (G : Net) → Sound G → (a : ℕ) (r q : List ℕ) → Fewest G a r → Fewest G a q → r ≡ q
fewest-one G sound a r q f g = some-injective r q (sym ((fewest-is G sound a r).1 f) ∙ (fewest-is G sound a q).1 g)

-- the goal of a route is a node
goal-node : (G : Net) → Sound G → {a : ℕ} {met : ℕ → Bool} {r : List ℕ} → a < G.nodes → IsRoute G a met r → G.goal < G.nodes
goal-node G sound h (arrived e) = subst (λ (x : ℕ). x < G.nodes) e h
goal-node G sound {a = a} h (passed {i = i} {f = f} ne l e m p) = goal-node G sound (sound i a f e) p

-- one with a link begins elsewhere
not-goal : (G : Net) {a i : ℕ} {met : ℕ → Bool} {r : List ℕ} → IsRoute G a met (i ∷ r) → a ≡ G.goal → ⊥
not-goal G (passed ne l e m p) = ne

module _ (c : Chart) (right : chart_refusal c ≡ 0) where
  ok : Accepted c
  ok = accepted c right

  given : (a : ℕ) → a < c.nodes.count → HasTable c (station_at c a)
  unfolding has_node stands_at
  given a h = record { chart = right; node = any_found (stands_at c.nodes (station_at c a)) c.nodes.count a h (station-refl (station_at c a)) }

  own : (a : ℕ) → a < c.nodes.count → station_place c.nodes (station_at c a) ≡ a
  own a h = own-place c.nodes ok.once a h

  module _ (ts : ℕ → Table) (made : Written c ts) (d : Address) (a : ℕ) (h : a < c.nodes.count) (p : Port) (call : call_in_range d p ≡ true) where
    says : Choices c (station_at c a) d p
    says = every-table-choice c (station_at c a) (given a h) d p call

    by-table : choose_of (ts a) d p ≡ choose_of (table_for c (station_at c a)) d p
    by-table = ap (λ (t : Table). choose_of t d p) (made a h)

    pub chooses-local : a ≡ station_place c.nodes (station_of d) → choose_of (ts a) d p ≡ Local d.port
    chooses-local e = by-table ∙ says.local (at-node c ok (station_of d) a (sym e) h)

    -- out by the near end of the first link, unless it came in there
    module _ (i : ℕ) (r : List ℕ) (f : Fewest (net_to c (station_of d)) a (i ∷ r)) where
      abbrev b : ℕ
      b = station_place c.nodes (station_of d)

      goal-there : b < c.nodes.count
      goal-there = goal-node (net_to c (station_of d)) (net-sound c ok (station_of d)) h f.route

      named : station_of d ≡ station_at c b
      named = at-node c ok (station_of d) b refl goal-there

      -- the same route, for the station of the goal and from that of the start
      moved : Fewest (net_to c (station_at c b)) (station_place c.nodes (station_at c a)) (i ∷ r)
      moved =
          subst (λ (x : ℕ). Fewest (net_to c (station_at c b)) x (i ∷ r)) (sym (own a h))
          (subst (λ (t : Station). Fewest (net_to c t) a (i ∷ r)) named f)

      entry : (k : ℕ) × EntryFor c (station_at c a) k b
      entry =
          ((every-entry c (station_at c a) (given a h)).each b goal-there).1
          (record { other = λ q. not-goal (net_to c (station_of d)) f.route (sym (own a h) ∙ q); route = (i ∷ r, moved.route) })

      port_is : (entry_at (table_for c (station_at c a)) entry.0).port ≡ (near_of c i a).port
      port_is =
          let w = every-port c (station_at c a) (given a h) entry.0 b entry.1 in
          let first = w.1.first in
          let same : w.0 ≡ i =
          head-eq_of_cons-eq (fewest-one (net_to c (station_at c b)) (net-sound c ok (station_at c b)) _ (w.0 ∷ first.0) (i ∷ r) first.1 moved)
          in
          w.1.port ∙ ap (λ (j : ℕ). (near_of c j a).port) same

      pub chooses-out : ((near_of c i a).port ≡ p → ⊥) → choose_of (ts a) d p ≡ Out (near_of c i a).port
      chooses-out ne = by-table ∙ says.out entry.0 b entry.1 named (λ q. ne (sym port_is ∙ q)) ∙ ap Out port_is

    -- nowhere, where there is no route
    pub chooses_none : ((r : List ℕ) → RouteFrom (net_to c (station_of d)) a r → ⊥) → choose_of (ts a) d p ≡ Refused 52
    chooses_none none =
        by-table
        ∙ says.none (λ q. none [] (arrived (sym (ap (station_place c.nodes) q ∙ own a h))))
        (λ k b e q.
        let w = (((every-entry c (station_at c a) (given a h)).each b e.node).0 (k, e)).route in
        none w.0
        (subst (λ (x : ℕ). RouteFrom (net_to c (station_of d)) x w.0) (own a h)
        (subst (λ (t : Station). RouteFrom (net_to c t) (station_place c.nodes (station_at c a)) w.0) (sym q) w.1)))
