-- Places by station: in a chart that writes no node twice, a node's own station has its place, and no other has.
use Prim.Native.Nat.{ℕ, ◌<◌, ◌≤◌}
use mathlib.Core.Path.{◌≡◌, refl, sym, ap, ◌∙◌}
use mathlib.Core.Bool.{Bool, true, false, cond}
use mathlib.Core.Option.{Option, none, some}
use mathlib.Core.List.{List}
use native.Mathlib.Omega.{arith}
use borrow.Author.Tests.{eqb-true, eq-eqb, lt-ltb, le-ltb}
use lib.Dec.{eqb}
use Rattle.lists.specs.Places.{any_below, first_below}
use Rattle.lists.proofs.Bools.{and_left, and_right, both_ways, both-same}
use Rattle.lists.proofs.Places.{any-agree, first-stop, first_found, first-none, first_below-any}
use Rattle.address.specs.declared.Station.{Station}
use Rattle.address.specs.Address.{station_of, same_station}
use Rattle.chart.specs.declared.Link.{Link}
use Rattle.chart.specs.declared.Nodes.{Nodes}
use Rattle.chart.specs.Values.{node_at, stands_at, has_node}
use Rattle.chart_refuse.specs.Private.{StationKeyed, KeysOf, key_is}
use Rattle.chart_refuse.proofs.ByKeys.{keyed-of, stands-keyed}
use Rattle.chart_refuse.specs.Refusal.{nodes_before}
use Rattle.chart_net.specs.Net.{station_place}
use Rattle.chart_net.specs.Private.{station_place_for}

-- the tests that `across` asks, one by one
abbrev pub crossed : Bool → Bool → Bool → Link → Option Station
crossed on p q l = cond on (cond p (some (station_of l.b)) (cond q (some (station_of l.a)) none)) none

-- ---- stations that are the same are one

pub station-eq : (s t : Station) → same_station s t ≡ true → s ≡ t
unfolding same_station
station-eq s t e =
    let x = eqb-true s.brigade t.brigade (and_left (eqb s.brigade t.brigade) _ e) in
    let y = eqb-true s.node.0 t.node.0 (and_right (eqb s.brigade t.brigade) _ e) in
    λ i. record { brigade = x i; node = record { 0 = y i } }

pub station-refl : (s : Station) → same_station s s ≡ true
unfolding same_station
station-refl s = rw (eq-eqb s.brigade s.brigade refl, eq-eqb s.node.0 s.node.0 refl)

station-sym : (s t : Station) → same_station s t ≡ same_station t s
station-sym s t = both-same (same_station s t) (same_station t s) (λ e. turn s t e) (λ e. turn t s e)
  where
    turn : (s t : Station) → same_station s t ≡ true → same_station t s ≡ true
    turn s t e = ap (same_station t) (station-eq s t e) ∙ station-refl t

-- ---- places

module _ (ns : Nodes) (s : Station) where
  -- a search that stops, and one that does not
  pub place_here : (i : ℕ) → i < ns.count → any_below (stands_at ns s) i ≡ false → stands_at ns s i ≡ true → i ≡ station_place ns s
  unfolding station_place
  place_here i h n e = sym (first-stop (stands_at ns s) ns.count i (record { below = h; passes = e; none_before = n }))

  pub place_none : any_below (stands_at ns s) ns.count ≡ false → ns.count ≡ station_place ns s
  unfolding station_place
  place_none n = sym (first-none (stands_at ns s) ns.count n)

  -- the same of the keys
  module _ (keys : List ℕ) (f : ns.count ≤ 16) (h : KeysOf ns keys) (k : ℕ) (e : StationKeyed s k) where
    stands-key : (i : ℕ) → i < ns.count → key_is keys k i ≡ stands_at ns s i
    stands-key i l = ap (λ (x : ℕ). key_is keys x i) e.key ∙ stands-keyed ns keys (keyed-of ns keys f h) s e.node i l

    none-key : (i : ℕ) → i ≤ ns.count → any_below (key_is keys k) i ≡ false → any_below (stands_at ns s) i ≡ false
    none-key i l n = sym (any-agree (key_is keys k) (stands_at ns s) i (λ j m. stands-key j (omega arith))) ∙ n

    pub key_here : (i : ℕ) → i < ns.count → any_below (key_is keys k) i ≡ false → key_is keys k i ≡ true → i ≡ station_place ns s
    key_here i l n q = place_here i l (none-key i (omega arith) n) (sym (stands-key i l) ∙ q)

    pub key-none : any_below (key_is keys k) ns.count ≡ false → ns.count ≡ station_place ns s
    key-none n = place_none (none-key ns.count (omega arith) n)

  -- a station that is written has a place among the nodes
  pub place-written : has_node ns s ≡ true → station_place ns s < ns.count
  unfolding has_node station_place
  place-written e = (first_found (stands_at ns s) ns.count e).below

  -- where the nodes are not too many
  pub place-few : ns.count ≤ 16 → station_place_for ns s ≡ station_place ns s
  unfolding station_place_for
  place-few h = rw (le-ltb 16 ns.count h)

  pub place-many : 16 < ns.count → 16 ≡ station_place_for ns s
  unfolding station_place_for
  place-many h = rw (lt-ltb 16 ns.count h)

module _ (ns : Nodes) (once : (i : ℕ) → i < ns.count → has_node (nodes_before ns i) (node_at ns i).station ≡ false) where
  -- each node has its own place
  pub own-place : (a : ℕ) → a < ns.count → station_place ns (node_at ns a).station ≡ a
  unfolding has_node stands_at node_at
  own-place a h = sym (place_here ns (node_at ns a).station a h (once a h) (station-refl (node_at ns a).station))

  -- the node at a station's place stands there
  pub stands-there : (s : Station) (k : ℕ) → station_place ns s ≡ k → k < ns.count → same_station (node_at ns k).station s ≡ true
  unfolding station_place stands_at
  stands-there s k q l =
      let m : first_below (stands_at ns s) ns.count < ns.count = omega arith in
      ap (stands_at ns s) (sym q) ∙ (first_found (stands_at ns s) ns.count (first_below-any (stands_at ns s) ns.count m)).passes

  -- a station has the place of the node that stands at it, and no other
  pub at_place : (s : Station) (a : ℕ) → a < ns.count → same_station s (node_at ns a).station ≡ eqb (station_place ns s) a
  at_place s a h = both-same (same_station s (node_at ns a).station) (eqb (station_place ns s) a) to from
    where
      to : same_station s (node_at ns a).station ≡ true → eqb (station_place ns s) a ≡ true
      to e = eq-eqb (station_place ns s) a (ap (station_place ns) (station-eq s (node_at ns a).station e) ∙ own-place a h)

      from : eqb (station_place ns s) a ≡ true → same_station s (node_at ns a).station ≡ true
      from e = station-sym s (node_at ns a).station ∙ stands-there s a (eqb-true (station_place ns s) a e) h

  -- two stations that are written have two places
  pub place-apart : (s t : Station) → has_node ns s ≡ true → same_station s t ≡ false → station_place ns s ≡ station_place ns t → ⊥
  place-apart s t w n e =
      let k = station_place ns s in
      let h : k < ns.count = place-written ns s w in
      let p : s ≡ (node_at ns k).station = station-eq s (node_at ns k).station (at_place s k h ∙ eq-eqb k k refl) in
      let q : t ≡ (node_at ns k).station = station-eq t (node_at ns k).station (at_place t k h ∙ eq-eqb (station_place ns t) k (sym e)) in
      both_ways (ap (same_station s) (q ∙ sym p) ∙ station-refl s) n
