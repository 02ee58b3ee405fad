-- The theorems of specs/Promises.antt: by what a chart's links lead to.
use Prim.Native.Nat.{ℕ}
use mathlib.Core.Path.{◌≡◌, refl, ap, fun_ext, ◌∙◌}
use mathlib.Core.Bool.{Bool, true, false, cond, ◌&&◌, ◌||◌}
use mathlib.Core.Option.{Option, none, some}
use borrow.Author.Tests.{lt-ltb}
use lib.Dec.{eqb, ltb}
use Rattle.lists.specs.Places.{first_below}
use Rattle.address.specs.declared.Station.{Station}
use Rattle.address.specs.Address.{station_of, same_station}
use Rattle.chart.specs.declared.Link.{Link}
use Rattle.chart.specs.declared.Nodes.{Nodes}
use Rattle.chart.specs.declared.Links.{Links}
use Rattle.chart.specs.declared.Chart.{Chart}
use Rattle.chart.specs.Values.{node_at, link_at, stands_at}
use Rattle.route.specs.All.{all_routes}
use Rattle.route.proofs.Promises.{off-links, twin-links}
use Rattle.chart_net.proofs.Places.{crossed}
use Rattle.chart_net.specs.Net.{station_place, goes_out, goes_back, across, placed, far_end, chart_net, start, routes_of, routes_between}
use Rattle.chart_net.specs.Promises.{SameRoutesBetween, SameRoutes, AcceptedEnds, ByStation, OffLink, OneWay, TwinLink}
use Rattle.chart_net.proofs.Kept as kept

pub routes-between : SameRoutesBetween
routes-between c ok s t w = kept.routes-between c ok s t w

pub routes-kept : SameRoutes
routes-kept c ok = kept.routes-kept c ok

pub accepted-ends : AcceptedEnds
accepted-ends c ok = record { sound = kept.chart-sound c ok; begins = kept.start-below c ok }

-- ---- labels are not looked at

module _ (ns ms : Nodes) (count : ns.count ≡ ms.count) (stations : (i : ℕ) → (node_at ns i).station ≡ (node_at ms i).station) where
  place_same : (s : Station) → station_place ns s ≡ station_place ms s
  unfolding station_place stands_at
  place_same s =
      let p : stands_at ns s ≡ stands_at ms s = fun_ext (λ i. ap (λ (t : Station). same_station t s) (stations i)) in
      λ j. first_below (p j) (count j)

  placed_same : (o : Option Station) → placed ns o ≡ placed ms o
  placed_same none = refl
  placed_same (some s) = ap some (place_same s)

  far-same : (ls : Links) → far_end ns ls ≡ far_end ms ls
  unfolding far_end
  far-same ls =
      fun_ext (λ i. fun_ext (λ a.
      ap (λ (o : Option ℕ). cond (ltb i ls.count) o none)
      (ap (λ (s : Station). placed ns (across (link_at ls i) s)) (stations a) ∙ placed_same (across (link_at ls i) (node_at ms a).station))))

-- two charts with the same stations and the same links have the same routes between any two stations
pub same-between : (c d : Chart) → c.nodes.count ≡ d.nodes.count → ((i : ℕ) → (node_at c.nodes i).station ≡ (node_at d.nodes i).station)
    → c.links ≡ d.links → (s t : Station) → routes_between c s t ≡ routes_between d s t
unfolding routes_between
same-between c d n stations m s t =
    let place = place_same c.nodes d.nodes n stations in
    let far = far-same c.nodes d.nodes n stations c.links ∙ ap (far_end d.nodes) m in
    λ j. all_routes (record { nodes = n j; links = (m j).count; far = far j; goal = place t j }) (place s j)

pub by-station : ByStation
unfolding routes_of
by-station c d e = same-between c d e.count e.stations e.links c.from c.to ∙ (λ j. routes_between d (e.from j) (e.to j))

-- ---- off links, links against their direction, and twin links

off-far : (ns : Nodes) (ls : Links) (i : ℕ) → (link_at ls i).on ≡ false → (n : ℕ) → far_end ns ls i n ≡ none
unfolding far_end
off-far ns ls i off n = go (ltb i ls.count)
  where
    go : (b : Bool) → cond b (placed ns (across (link_at ls i) (node_at ns n).station)) none ≡ none
    go true = rw off
    go false = refl

pub off_link : OffLink
unfolding chart_net
off_link c i off r p m = off-links (chart_net c) (start c) i (off-far c.nodes c.links i off) r p m

-- a test that does not hold where it is asked
unmet-test : (o p : Bool) → (o ≡ true → p ≡ false) → (o && p) ≡ false
unmet-test true p h = h refl
unmet-test false p h = refl

against-far : (ns : Nodes) (l : Link) (on p q : Bool) → p ≡ false → q ≡ false → placed ns (crossed on p q l) ≡ none
against-far ns l true p q e f = rw (e, f)
against-far ns l false p q e f = refl

pub one_way : OneWay
unfolding chart_net far_end
one_way c i a w = go (ltb i c.links.count)
  where
    go : (b : Bool) → cond b (placed c.nodes (across (link_at c.links i) (node_at c.nodes a).station)) none ≡ none
    go true =
        let l = link_at c.links i in
        let s = (node_at c.nodes a).station in
        against-far c.nodes l l.on (goes_out l && same_station (station_of l.a) s) (goes_back l && same_station (station_of l.b) s) (unmet-test (goes_out l) _ w.out) (unmet-test (goes_back l) _ w.back)
    go false = refl

twin-across : (l k : Link) (s : Station) → station_of l.a ≡ station_of k.a → station_of l.b ≡ station_of k.b → l.on ≡ k.on → l.direction ≡ k.direction
    → across l s ≡ across k s
unfolding goes_out goes_back
twin-across l k s ea eb eo ed =
    go l.on (goes_out l && same_station (station_of l.a) s) (goes_back l && same_station (station_of l.b) s)
    ∙ (λ j. crossed (eo j) ((eqb (ed j) 0 || eqb (ed j) 1) && same_station (ea j) s) ((eqb (ed j) 0 || eqb (ed j) 2) && same_station (eb j) s) k)
  where
    go : (o p q : Bool) → crossed o p q l ≡ crossed o p q k
    go false p q = refl
    go true true q = ap some eb
    go true false true = ap some ea
    go true false false = refl

pub twin-link : TwinLink
unfolding chart_net far_end
twin-link c i j t hi hj ne p r q =
    let far : (n : ℕ) → (chart_net c).far i n ≡ (chart_net c).far j n =
    λ n.
    rw (lt-ltb i c.links.count hi, lt-ltb j c.links.count hj)
    (ap (placed c.nodes) (twin-across (link_at c.links i) (link_at c.links j) (node_at c.nodes n).station t.a t.b t.on t.direction))
    in
    twin-links (chart_net c) (start c) i j far hj ne p r q
