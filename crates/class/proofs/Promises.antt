-- The theorems of specs/Promises.antt.
use Prim.Native.Nat.{ℕ, zero, suc, ◌<◌}
use mathlib.Core.Path.{◌≡◌, refl, ap}
use mathlib.Core.Logic.{◌↔◌}
use mathlib.Core.Bool.{true}
use mathlib.Core.Option.{Option, none, some}
use mathlib.Core.List.{List}
use native.Mathlib.Omega.{arith}
use Rattle.lists.proofs.Bools.{and_left}
use Rattle.address.specs.declared.Station.{Station}
use Rattle.address.specs.declared.Address.{Address}
use Rattle.address.specs.Address.{station_of, in_range}
use Rattle.table.specs.declared.Table.{Table}
use Rattle.table.specs.Table.{call_in_range}
use Rattle.chart.specs.declared.Chart.{Chart}
use Rattle.chart_refuse.specs.Promises.{Accepted}
use Rattle.chart_refuse.proofs.Accepted.{accepted}
use Rattle.chart_net.specs.Net.{station_place, net_to}
use Rattle.chart_net.proofs.Kept.{net-sound}
use Rattle.route.specs.Route.{Net, Sound, only, RouteFrom}
use Rattle.route.specs.All.{unmet}
use Rattle.route.proofs.Laws.{unmet-only}
use Rattle.route.proofs.Promises.{short-routes}
use Rattle.route_fewest.specs.Fewest.{fewest_from}
use Rattle.route_fewest.specs.Promises.{Fewest}
use Rattle.route_fewest.proofs.Promises.{fewest-is, none_is}
use Rattle.route_links.specs.Sets.{has}
use Rattle.class.specs.Class.{delivered, begun_at, steps_on, way_from, ending_from}
use Rattle.class.specs.Promises.{Taken, EndsInTime, StaysEnded, AlongLinks, EveryWay, Written, DeliveredExactly, AlongFewest, StepByStep}
use Rattle.class.proofs.Steps.{met-only, steps-ended, in-time, goes_over}
use Rattle.class.proofs.Ways.{way-tells}
use Rattle.class.proofs.Refusals.{NotRefused, not-refused, sent}
use Rattle.class.proofs.Delivering.{Arrives, arrives, starts, lost}

module _ (c : Chart) (ts : ℕ → Table) (d : Address) (s : Station) (t : Taken c ts d s) where
  ok : Accepted c
  ok = accepted c t.chart

  begins : NotRefused c.nodes ts d (station_place c.nodes s) (record { 0 = 0 })
  begins = not-refused c.nodes ts d (station_place c.nodes s) (record { 0 = 0 }) t.class

-- ---- whatever the tables

pub ends-in-time : EndsInTime
unfolding ending_from begun_at
ends-in-time c ts d s t =
    let n = c.nodes.count in
    let a = station_place c.nodes s in
    let here : a < n = (begins c ts d s t).here in
    let few : unmet n (has (begun_at a).met) ≡ unmet n (only a) = ap (unmet n) (met-only a (omega (arith, (ok c ts d s t).few_nodes))) in
    in-time c ts d (ok c ts d s t) n (begun_at a) (omega (arith, unmet-only n a here))

pub stays-ended : StaysEnded
stays-ended c ts d m h n = steps-ended c ts d n m h

pub along-links : AlongLinks
along-links c ts d m h u q = goes_over c (accepted c h) ts d m u q

pub every_way : EveryWay
every_way c ts d s t = way-tells c (ok c ts d s t) ts d (station_place c.nodes s) (begins c ts d s t).here

-- ---- with the tables that are written from the chart

module _ (c : Chart) (ts : ℕ → Table) (d : Address) (s : Station) (t : Taken c ts d s) (made : Written c ts) where
  abbrev a : ℕ
  a = station_place c.nodes s

  abbrev G : Net
  G = net_to c (station_of d)

  to : in_range d ≡ true
  unfolding call_in_range
  to = and_left (in_range d) _ (begins c ts d s t).call

  sound : Sound G
  sound = net-sound c (ok c ts d s t) (station_of d)

  with-route : (r : List ℕ) → Fewest G a r → Arrives c t.chart ts made d to c.nodes.count r (begun_at a)
  with-route r f =
      let here = (begins c ts d s t).here in
      arrives c t.chart ts made d to c.nodes.count r (begun_at a) (short-routes G sound a here r f.route) (starts c t.chart ts made d to a here r f)

  never : fewest_from G a ≡ none → (n : ℕ) → c.nodes.count ≡ n → (steps_on c ts d n (begun_at a)).ending ≡ delivered → ⊥
  never e zero q h = let here = (begins c ts d s t).here in omega arith
  never e (suc n) q h = let z = lost c t.chart ts made d to a (begins c ts d s t).here ((none_is G sound a).0 e) n in omega arith

  exactly : (o : Option (List ℕ)) → fewest_from G a ≡ o → (ending_from c ts d a ≡ delivered) ↔ ((r : List ℕ) × RouteFrom G a r)
  unfolding ending_from
  exactly none e = (λ q. absurd (never e c.nodes.count refl q), λ p. absurd ((none_is G sound a).0 e p.0 p.1))
  exactly (some r) e = let f = (fewest-is G sound a r).0 e in (λ q. (r, f.route), λ p. (with-route r f).ending)

pub delivered-exactly : DeliveredExactly
delivered-exactly c ts d s t made = exactly c ts d s t made (fewest_from (net_to c (station_of d)) (station_place c.nodes s)) refl

pub along-fewest : AlongFewest
unfolding way_from begun_at
along-fewest c ts d s t made r f = (with-route c ts d s t made r f).way

-- ---- the calls

pub step-by-step : StepByStep
step-by-step bytes tables d s b z n = sent bytes tables d s b z n
