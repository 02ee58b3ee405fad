-- The arrays that the trace keeps of an accepted chart have the chart's routes: each link leads to the same place in both.
use Prim.Native.Nat.{ℕ, zero, suc, ◌+◌, ◌<◌, ◌≤◌}
use mathlib.Core.Path.{◌≡◌, refl, sym, ap, ap₂, ◌∙◌}
use mathlib.Core.Bool.{Bool, true, false, cond, ◌&&◌, ◌||◌}
use mathlib.Core.Option.{none, some, none-ne-some, some-injective}
use mathlib.Core.List.{List, [], ◌∷◌}
use native.Mathlib.Omega.{arith}
use borrow.Author.Tests.{lt-ltb, le-ltb, ltb-true, lt-leb, ne_eqb, eqb-true}
use lib.Dec.{eqb, ltb, leb}
use lib.ListN.{length, get_or, set, take, replicate, length-take}
use Rattle.lists.specs.Places.{row}
use Rattle.lists.proofs.Places.{element-own, row-none, row_next, row_at, length-row}
use Rattle.address.specs.declared.Station.{Station}
use Rattle.address.specs.Address.{station_of, same_station}
use Rattle.chart.specs.declared.Link.{Link}
use Rattle.chart.specs.declared.Nodes.{Nodes}
use Rattle.chart.specs.declared.Links.{Links}
use Rattle.chart.specs.declared.Chart.{Chart}
use Rattle.chart.specs.Values.{node_at, link_at, has_node}
use Rattle.chart.proofs.Laws.{link-taken}
use Rattle.route.specs.Route.{Net, Sound}
use Rattle.route.specs.All.{all_routes}
use Rattle.route.proofs.SameNet.{Alike, routes-agree}
use Rattle.route_links.specs.Arrays.{node_place, is_out, is_back, other_end, far_node, net}
use Rattle.route_links.proofs.Arrays.{far-in, sound}
use Rattle.route_search.specs.Private.{routes_over}
use Rattle.chart_refuse.specs.Promises.{Accepted}
use Rattle.chart_net.specs.Net.{station_place, goes_out, goes_back, across, placed, far_end, net_to, chart_net, start, routes_of, routes_between}
use Rattle.chart_net.specs.Private.{station_place_for, end_places, end_places_at, passage_of, passage_at, ends_for, passages_for, array_routes_between, array_routes}
use Rattle.chart_net.proofs.Places.{crossed, place-written, place-few, at_place, place-apart}

-- ---- the arrays, an element at a time

module _ {A : Type 0} where
  row_read : (m : ℕ) (z z' : A) (d : ℕ → A) (n i : ℕ) → n ≤ m → i < n → get_or (row m z d n) i z' ≡ d i
  row_read m z z' d n i h k =
      let l : i < length (row m z d n) = rw (length-row m z d n h) (omega arith) in
      element-own z z' (row m z d n) i l ∙ sym (row_at m z d n i k)

ends_at : (ns : Nodes) (ls : Links) (i : ℕ) → ls.count ≤ 48 → i < ls.count → get_or (ends_for ns ls) i [] ≡ end_places_at ns ls i
unfolding ends_for
ends_at ns ls i h k = rw (le-ltb 48 ls.count h) (row_read 48 (0 ∷ 0 ∷ []) [] (end_places_at ns ls) ls.count i h k)

way_at : (ls : Links) (i : ℕ) → ls.count ≤ 48 → i < ls.count → get_or (passages_for ls) i 0 ≡ passage_at ls i
unfolding passages_for
way_at ls i h k = rw (le-ltb 48 ls.count h) (row_read 48 0 0 (passage_at ls) ls.count i h k)

-- ---- filling the arrays, a link a turn

module _ (ls : Links) where
  pub ways-many : 48 < ls.count → replicate 48 0 ≡ passages_for ls
  unfolding passages_for
  ways-many h = rw (lt-ltb 48 ls.count h)

  pub ways-none : replicate 48 0 ≡ row 48 0 (passage_at ls) 0
  ways-none = sym (row-none 48 0 (passage_at ls))

  pub ways_next : (ways : List ℕ) (d : Link) (i w : ℕ) → ls.count ≤ 48 → i < length (take ls.count ls.items) → ways ≡ row 48 0 (passage_at ls) i
      → w ≡ passage_of (get_or (take ls.count ls.items) i d) → set ways i w ≡ row 48 0 (passage_at ls) (i + 1)
  unfolding passage_at
  ways_next ways d i w h k e q =
      ap₂ (λ (l : List ℕ) (x : ℕ). set l i x) e (q ∙ ap passage_of (link-taken ls d ls.count i k)) ∙ row_next 48 0 (passage_at ls) i (omega (arith, length-take ls.count ls.items))

  pub ways-all : (ways : List ℕ) (i : ℕ) → ls.count ≤ 48 → i ≡ ls.count → ways ≡ row 48 0 (passage_at ls) i → ways ≡ passages_for ls
  unfolding passages_for
  ways-all ways i h e q = rw (le-ltb 48 ls.count h) (q ∙ ap (row 48 0 (passage_at ls)) e)

  module _ (ns : Nodes) where
    abbrev two : List ℕ
    two = 0 ∷ 0 ∷ []

    pub ends-many : 48 < ls.count → replicate 48 two ≡ ends_for ns ls
    unfolding ends_for
    ends-many h = rw (lt-ltb 48 ls.count h)

    pub ends-none : replicate 48 two ≡ row 48 two (end_places_at ns ls) 0
    ends-none = sym (row-none 48 two (end_places_at ns ls))

    pub ends_next : (ends : List (List ℕ)) (d : Link) (i : ℕ) (es : List ℕ) → ls.count ≤ 48 → i < length (take ls.count ls.items) → ends ≡ row 48 two (end_places_at ns ls) i
        → es ≡ end_places ns (get_or (take ls.count ls.items) i d) → set ends i es ≡ row 48 two (end_places_at ns ls) (i + 1)
    unfolding end_places_at
    ends_next ends d i es h k e q =
        ap₂ (λ (l : List (List ℕ)) (x : List ℕ). set l i x) e (q ∙ ap (end_places ns) (link-taken ls d ls.count i k))
        ∙ row_next 48 two (end_places_at ns ls) i (omega (arith, length-take ls.count ls.items))

    pub ends-all : (ends : List (List ℕ)) (i : ℕ) → ls.count ≤ 48 → i ≡ ls.count → ends ≡ row 48 two (end_places_at ns ls) i → ends ≡ ends_for ns ls
    unfolding ends_for
    ends-all ends i h e q = rw (le-ltb 48 ls.count h) (q ∙ ap (row 48 two (end_places_at ns ls)) e)

-- ---- far ends: of the chart, and of the arrays

pub far-there : (ns : Nodes) (ls : Links) (i a : ℕ) → i < ls.count → far_end ns ls i a ≡ placed ns (across (link_at ls i) (node_at ns a).station)
unfolding far_end
far-there ns ls i a h = rw (lt-ltb i ls.count h)

node-there : (m : ℕ) → m < 16 → node_place m ≡ some m
unfolding node_place
node-there m h = rw (lt-ltb m 16 h)

-- the way of a link is out, and back, where its direction is; above 2 it is neither
module _ (d : ℕ) (h : 2 < d) where
  past-out : (eqb d 0 || eqb d 1) ≡ false
  past-out = rw (ne_eqb d 0 (λ e. omega arith), ne_eqb d 1 (λ e. omega arith))

  past_back : (eqb d 0 || eqb d 2) ≡ false
  past_back = rw (ne_eqb d 0 (λ e. omega arith), ne_eqb d 2 (λ e. omega arith))

passed-out : (on : Bool) (d : ℕ) → is_out (cond (on && leb d 2) (d + 1) 0) ≡ (on && (eqb d 0 || eqb d 1))
unfolding is_out
passed-out false d = refl
passed-out true zero = refl
passed-out true (suc zero) = refl
passed-out true (suc (suc zero)) = refl
passed-out true (suc (suc (suc d))) = rw (lt-leb (suc (suc (suc d))) 2 (omega arith), past-out (suc (suc (suc d))) (omega arith))

passed-back : (on : Bool) (d : ℕ) → is_back (cond (on && leb d 2) (d + 1) 0) ≡ (on && (eqb d 0 || eqb d 2))
unfolding is_back
passed-back false d = refl
passed-back true zero = refl
passed-back true (suc zero) = refl
passed-back true (suc (suc zero)) = refl
passed-back true (suc (suc (suc d))) = rw (lt-leb (suc (suc (suc d))) 2 (omega arith), past_back (suc (suc (suc d))) (omega arith))

-- a link from a node leads to the same place, whether one goes by stations or by places
one_link : (ns : Nodes) (l : Link) (x y : ℕ) → station_place ns (station_of l.a) ≡ x → station_place ns (station_of l.b) ≡ y → x < 16 → y < 16
    → (on out back p q : Bool)
    → placed ns (crossed on (out && p) (back && q) l) ≡ cond ((on && out) && p) (node_place y) (cond ((on && back) && q) (node_place x) none)
one_link ns l x y ex ey hx hy false out back p q = refl
one_link ns l x y ex ey hx hy true out back p q = go (out && p) (back && q)
  where
    go : (o b : Bool) → placed ns (crossed true o b l) ≡ cond o (node_place y) (cond b (node_place x) none)
    go true b = rw (node-there y hy) (ap some ey)
    go false true = rw (node-there x hx) (ap some ex)
    go false false = refl

module _ (c : Chart) (ok : Accepted c) where
  abbrev ns : Nodes
  ns = c.nodes

  abbrev ls : Links
  ls = c.links

  below-16 : (s : Station) → has_node c.nodes s ≡ true → station_place c.nodes s < 16
  below-16 s w = let h = place-written c.nodes s w in let k = ok.few_nodes in omega arith

  -- each link leads to the same node, in the chart and in the arrays
  pub far-same : (i a : ℕ) → i < c.links.count → a < c.nodes.count
      → far_end c.nodes c.links i a ≡ far_node (ends_for c.nodes c.links) (passages_for c.links) c.links.count i a
  unfolding other_end end_places_at end_places passage_at passage_of goes_out goes_back
  far-same i a h k =
      let l = link_at ls i in
      let d = l.direction in
      let j = ok.joins i h in
      let x = station_place ns (station_of l.a) in
      let y = station_place ns (station_of l.b) in
      let e : far_node (ends_for ns ls) (passages_for ls) ls.count i a ≡ other_end (x ∷ y ∷ []) (passage_of l) a =
      far-in (ends_for ns ls) (passages_for ls) ls.count i a h
      ∙ ap₂ (λ (es : List ℕ) (w : ℕ). other_end es w a) (ends_at ns ls i ok.few_links h) (way_at ls i ok.few_links h)
      ∙ ap₂ (λ (p q : ℕ). other_end (p ∷ q ∷ []) (passage_of l) a) (place-few ns (station_of l.a) ok.few_nodes) (place-few ns (station_of l.b) ok.few_nodes)
      in
      far-there ns ls i a h
      ∙ ap₂ (λ (p q : Bool). placed ns (crossed l.on (goes_out l && p) (goes_back l && q) l)) (at_place ns ok.once (station_of l.a) a k) (at_place ns ok.once (station_of l.b) a k)
      ∙ one_link ns l x y refl refl (below-16 (station_of l.a) j.a) (below-16 (station_of l.b) j.b) l.on (goes_out l) (goes_back l) (eqb x a) (eqb y a)
      ∙ sym (ap₂ (λ (o b : Bool). cond (o && eqb x a) (node_place y) (cond (b && eqb y a) (node_place x) none)) (passed-out l.on d) (passed-back l.on d))
      ∙ sym e

  crossed-sound : (l : Link) (f : ℕ) → has_node c.nodes (station_of l.a) ≡ true → has_node c.nodes (station_of l.b) ≡ true
      → (on p q : Bool) → placed c.nodes (crossed on p q l) ≡ some f → f < c.nodes.count
  crossed-sound l f wa wb false p q e = absurd (none-ne-some f e)
  crossed-sound l f wa wb true true q e =
      let z : station_place ns (station_of l.b) ≡ f = some-injective _ _ e in
      let h = place-written ns (station_of l.b) wb in
      omega arith
  crossed-sound l f wa wb true false true e =
      let z : station_place ns (station_of l.a) ≡ f = some-injective _ _ e in
      let h = place-written ns (station_of l.a) wa in
      omega arith
  crossed-sound l f wa wb true false false e = absurd (none-ne-some f e)

  -- no link leads to the node that one stands at
  pub leads-away : (i a f : ℕ) → i < c.links.count → a < c.nodes.count → far_end c.nodes c.links i a ≡ some f → f ≡ a → ⊥
  leads-away i a f h k e q =
      let l = link_at ls i in
      go l.on (goes_out l) (goes_back l) (eqb x a) (eqb y a) refl refl
      (sym (far-there ns ls i a h
      ∙ ap₂ (λ (p q : Bool). placed ns (crossed l.on (goes_out l && p) (goes_back l && q) l)) (at_place ns ok.once (station_of l.a) a k) (at_place ns ok.once (station_of l.b) a k)) ∙ e)
    where
      x : ℕ
      x = station_place c.nodes (station_of (link_at c.links i).a)

      y : ℕ
      y = station_place c.nodes (station_of (link_at c.links i).b)

      two : x ≡ a → y ≡ a → ⊥
      two p r = let j = ok.joins i h in place-apart c.nodes ok.once (station_of (link_at c.links i).a) (station_of (link_at c.links i).b) j.a j.apart (p ∙ sym r)

      go : (on out back p r : Bool) → eqb x a ≡ p → eqb y a ≡ r → placed c.nodes (crossed on (out && p) (back && r) (link_at c.links i)) ≡ some f → ⊥
      go false out back p r u v z = none-ne-some f z
      go true true back true r u v z = let t : y ≡ f = some-injective _ _ z in two (eqb-true x a u) (t ∙ q)
      go true true true false true u v z = let t : x ≡ f = some-injective _ _ z in two (t ∙ q) (eqb-true y a v)
      go true true true false false u v z = none-ne-some f z
      go true true false false r u v z = none-ne-some f z
      go true false true p true u v z = let t : x ≡ f = some-injective _ _ z in two (t ∙ q) (eqb-true y a v)
      go true false true p false u v z = none-ne-some f z
      go true false false p r u v z = none-ne-some f z

  -- every far end of an accepted chart is a node of it
  pub net-sound : (t : Station) → Sound (net_to c t)
  unfolding far_end
  net-sound t i a f e = go (ltb i ls.count) refl e
    where
      go : (b : Bool) → ltb i c.links.count ≡ b → cond b (placed c.nodes (across (link_at c.links i) (node_at c.nodes a).station)) none ≡ some f → f < c.nodes.count
      go false t q = absurd (none-ne-some f q)
      go true t q =
          let l = link_at ls i in
          let j = ok.joins i (ltb-true i ls.count t) in
          let p = same_station (station_of l.a) (node_at ns a).station in
          let r = same_station (station_of l.b) (node_at ns a).station in
          crossed-sound l f j.a j.b l.on (goes_out l && p) (goes_back l && r) q

  pub chart-sound : Sound (chart_net c)
  unfolding chart_net
  chart-sound = net-sound c.to

  pub start-below : start c < c.nodes.count
  unfolding start
  start-below = place-written c.nodes c.from ok.from

  -- what the trace keeps has the chart's routes
  pub routes-between : (s t : Station) → has_node c.nodes s ≡ true → array_routes_between c s t ≡ routes_between c s t
  unfolding routes_over routes_between
  routes-between s t w =
      let to = station_place_for ns t in
      let from = station_place ns s in
      let kept : Net = net (ends_for ns ls) (passages_for ls) ls.count to in
      let alike : Alike (net_to c t) kept = record { links = refl; goal = sym (place-few ns t ok.few_nodes); far = λ i a h k. far-same i a h k } in
      ap (all_routes kept) (place-few ns s ok.few_nodes)
      ∙ sym (routes-agree (net_to c t) kept alike (net-sound t) (sound (ends_for ns ls) (passages_for ls) ls.count to) from (place-written ns s w))

  pub routes-kept : array_routes c ≡ routes_of c
  unfolding array_routes routes_of
  routes-kept = routes-between c.from c.to ok.from
