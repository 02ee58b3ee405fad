-- One turn over the links to choose from: the lowest is passed, the others are left.
use mathlib.Core.Path.{◌≡◌, refl, sym, ◌∙◌, ap, subst}
use mathlib.Core.Bool.{Bool, true, false}
use mathlib.Core.Option.{some}
use mathlib.Core.List.{List, [], ◌∷◌, ◌++◌, map}
use Prim.Native.Nat.{ℕ, zero, suc, ◌+◌, ◌-◌, ◌<◌, ◌≤◌}
use native.Mathlib.Omega.{arith}
use lib.Bits.{bit_xor}
use lib.Count.{count_trailing_zeros}
use lib.Dec.{eqb}
use lib.ListN.{get_or, length}
use Rattle.lists.proofs.Bools.{or-no-right}
use Rattle.route.specs.Route.{Net, also, IsRoute, arrived, passed}
use Rattle.route.specs.All.{tries}
use Rattle.route.proofs.Laws.{tries-over, unmet-also}
use Rattle.route_links.specs.Sets.{has, places_in}
use Rattle.route_links.specs.Private.{alone, net_of, met_of, routes_on, routes_by, OnRoute, Choosing}
use Rattle.route_links.proofs.Digits.{lowest-under, lowest-is, less-was, less-small}
use Rattle.route_links.proofs.Places.{places-next, places-none}

-- all that is needed of link i, which a turn passes
pub record Turn (t : List ℕ) (at gone links d i : ℕ) : Type 0 where
  pub place : i < 48
  pub room : d < 15
  pub back : at ≤ get_or t (32 + i) 0
  pub stands : OnRoute t (get_or t (32 + i) 0 - at) gone (d + 1)
  pub rest : Choosing t at gone (bit_xor links (alone i)) d
  pub fewer : length (places_in (bit_xor links (alone i))) < length (places_in links)
  pub says : routes_by t at gone links ≡ map (λ r. i ∷ r) (routes_on t (get_or t (32 + i) 0 - at) gone) ++ routes_by t at gone (bit_xor links (alone i))

-- a link that begins a route: its far end, and that neither it nor the goal is met
pub record Begun (G : Net) (at i : ℕ) (met : ℕ → Bool) : Type 0 where
  pub to : ℕ
  pub far : G.far i at ≡ some to
  pub fresh : met to ≡ false
  pub goal : met G.goal ≡ false
  pub leads : (r : List ℕ) × IsRoute G to (also to met) r

goal-fresh : (G : Net) {at i : ℕ} {met : ℕ → Bool} {r : List ℕ} → IsRoute G at met (i ∷ r) → met G.goal ≡ false
unfolding also
goal-fresh G {met = met} (passed ne l e m (arrived q)) = ap met (sym q) ∙ m
goal-fresh G {met = met} (passed {f = f} ne l e m (passed ne' l' e' m' p)) = or-no-right (eqb G.goal f) (met G.goal) (goal-fresh G (passed ne' l' e' m' p))

pub begun : (G : Net) {at i : ℕ} {met : ℕ → Bool} {r : List ℕ} → IsRoute G at met (i ∷ r) → Begun G at i met
begun G {r = r} (passed {f = f} ne l e m p) = record { to = f; far = e; fresh = m; goal = goal-fresh G (passed ne l e m p); leads = (r, p) }

positive : (w : ℕ) → (w ≡ 0 → ⊥) → 0 < w
positive zero h = absurd (h refl)
positive (suc w) h = omega arith

pub turn : (t : List ℕ) (at gone links d : ℕ) → Choosing t at gone links d → (links ≡ 0 → ⊥) → Turn t at gone links d (count_trailing_zeros 64 links)
unfolding routes_by
turn t at gone links d C ne =
    let i = count_trailing_zeros 64 links in
    let s = C.small in
    let e : has links i ≡ true = lowest-is 64 links (positive links ne) (omega arith) in
    let w = begun (net_of t) (C.begins i e).1 in
    let f = w.to in
    let k = (C.table.leads i at f w.far).kept in
    let sum = k.sum in
    let p : i < 48 = k.place in
    let z : get_or t (32 + i) 0 - at ≡ f = omega arith in
    let D = C.depth in
    let F = unmet-also 16 (met_of gone) f k.far w.fresh in
    let n : places_in links ≡ i ∷ places_in (bit_xor links (alone i)) = places-next links i p (lowest-under 64 links) e in
    let c : length (places_in links) ≡ suc (length (places_in (bit_xor links (alone i)))) = ap length n in
    record {
      place = p;
      room = omega arith;
      back = omega arith;
      stands = subst (λ (x : ℕ). OnRoute t x gone (d + 1)) (sym z)
          (record {
            stands = record { table = C.table; node = k.far; fresh = w.fresh; goal = w.goal; known = C.known; depth = omega arith };
            leads = w.leads;
          });
      rest = record {
        table = C.table;
        node = C.node;
        known = C.known;
        begins = λ j h. C.begins j (less-was links i j (omega arith) e h);
        depth = D;
        small = less-small 48 links i p (omega arith) s;
      };
      fewer = omega arith;
      says = ap (λ ls. tries (net_of t) (λ f. routes_on t f gone) at (met_of gone) ls) n
          ∙ tries-over (net_of t) (λ f. routes_on t f gone) at (met_of gone) i (places_in (bit_xor links (alone i))) f w.far w.fresh
          ∙ ap (λ (x : ℕ). map (λ r. i ∷ r) (routes_on t x gone) ++ tries (net_of t) (λ f. routes_on t f gone) at (met_of gone) (places_in (bit_xor links (alone i)))) (sym z);
    }

-- no links: no routes
pub routes-none : (t : List ℕ) (at gone links : ℕ) → links ≡ 0 → routes_by t at gone links ≡ []
unfolding routes_by tries
routes-none t at gone links e = ap (λ ls. tries (net_of t) (λ f. routes_on t f gone) at (met_of gone) ls) (ap places_in e ∙ places-none)
