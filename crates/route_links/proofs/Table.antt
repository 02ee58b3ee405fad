-- The table of a net has its routes: links from a node to itself are left out, and no route passes one.
use mathlib.Core.Path.{◌≡◌, refl, sym, ◌∙◌, subst}
use mathlib.Core.Logic.{◌⊎◌}
use mathlib.Core.Bool.{Bool, true, false, ◌&&◌}
use mathlib.Core.Option.{some}
use mathlib.Core.List.{List}
use Prim.Native.Nat.{ℕ, ◌+◌, ◌-◌, ◌<◌}
use native.Mathlib.Omega.{arith}
use borrow.Author.Tests.{ltb-true, lt-ltb}
use lib.Dec.{ltb}
use lib.ListN.{get_or}
use Rattle.lists.proofs.Bools.{and_left, and_right, both_ways}
use Rattle.route.specs.Route.{Net, Sound, only, IsRoute, arrived, passed}
use Rattle.route.specs.All.{all_from, all_routes}
use Rattle.route.proofs.Laws.{also-self, all_are}
use Rattle.route.proofs.Order.{inc-unique, all-increasing}
use Rattle.route_links.specs.Sets.{has}
use Rattle.route_links.specs.Arrays.{net}
use Rattle.route_links.specs.ByNode.{ByNode}
use Rattle.route_links.specs.Private.{Built, Usable, far_if, net_of, Walkable, Holds}
use Rattle.route_links.proofs.Arrays.{never, sound, far-inside, two_ends}
use Rattle.route_links.proofs.Rows.{rows-built}

far-if : (c : Bool) (k f : ℕ) → far_if c k ≡ some f → (c ≡ true) × (f ≡ k)
unfolding far_if
far-if true k f e = (refl, cc)
far-if false k f e = never (cc)

-- every far end is a node
pub table-sound : (t : List ℕ) → Walkable t → Sound (net_of t)
unfolding net_of
table-sound t T i a f e = (T.leads i a f e).kept.far

module _ (G : Net) (whole : Sound G) (nodes : G.nodes ≡ 16)
    (two : (i a f b g : ℕ) → G.far i a ≡ some f → G.far i b ≡ some g → (g ≡ a) ⊎ (g ≡ f))
    (t : List ℕ) (B : Built (Usable G G.links) t) (goal : get_or t 80 0 ≡ G.goal) where
  usable : (i a f : ℕ) → (net_of t).far i a ≡ some f → Usable G G.links i a f
  unfolding net_of
  usable i a f e =
      let w = far-if (has (get_or t (16 + a) 0) i && ltb a 16) (get_or t (32 + i) 0 - a) f e in
      let l : a < 16 = ltb-true a 16 (and_right (has (get_or t (16 + a) 0) i) (ltb a 16) w.0) in
      let u = B.outs i a l (and_left (has (get_or t (16 + a) 0) i) (ltb a 16) w.0) in
      let s = (B.leads i a u.0 u.1).sum in
      let v = w.1 in
      let z : u.0 ≡ f = omega arith in
      subst (λ (g : ℕ). Usable G G.links i a g) z u.1

  far-of : (i a f : ℕ) → Usable G G.links i a f → (net_of t).far i a ≡ some f
  unfolding net_of far_if
  far-of i a f u =
      let k = B.leads i a f u in
      let s = k.sum in
      let z : get_or t (32 + i) 0 - a ≡ f = omega arith in
      rw (k.from, lt-ltb a 16 k.near, z) refl

  walkable : Walkable t
  walkable =
      record {
        small = B.small;
        few = B.few;
        leads = λ i a f e. (let u = usable i a f e in record { kept = B.leads i a f u; apart = u.apart });
        outs = λ i a l e. (let u = B.outs i a l e in (u.0, far-of i a u.0 u.1));
        ins = λ i f l e. (let u = B.ins i f l e in (u.0, far-of i u.0 f u.1));
        froms = λ a f l e. (let u = B.froms a f l e in (u.0, far-of u.0 a f u.1));
        ends = λ i a f b g e k. two i a f b g (usable i a f e).leads (usable i b g k).leads;
      }

  there : {at : ℕ} {met : ℕ → Bool} {r : List ℕ} → IsRoute (net_of t) at met r → IsRoute G at met r
  unfolding net_of
  there (arrived e) = arrived (e ∙ goal)
  there {at = at} (passed {i = i} {f = f} ne l e m p) =
      let u = usable i at f e in
      passed (λ q. ne (q ∙ sym goal)) u.below u.leads m (there p)

  back : {at : ℕ} {met : ℕ → Bool} {r : List ℕ} → at < 16 → met at ≡ true → IsRoute G at met r → IsRoute (net_of t) at met r
  unfolding net_of
  back h w (arrived e) = arrived (e ∙ sym goal)
  back {at = at} {met = met} h w (passed {i = i} {f = f} ne l e m p) =
      let u : Usable G G.links i at f = record { below = l; leads = e; apart = λ q. both_ways w (subst (λ (z : ℕ). met z ≡ false) (sym q) m); node = h } in
      let k = (B.leads i at f u).place in
      passed (λ q. ne (q ∙ goal)) k (far-of i at f u) m (back (subst (λ (n : ℕ). f < n) nodes (whole i at f e)) (also-self f met) p)

  holds : Holds G t
  unfolding all_routes only
  holds =
      record {
        walkable = walkable;
        same = λ a h. inc-unique (all_from (net_of t) a (only a)) (all_from G a (only a)) (all-increasing (net_of t) a (only a)) (all-increasing G a (only a))
            (λ r m. (all_are G whole a (only a) r).1 (there ((all_are (net_of t) (table-sound t walkable) a (only a) r).0 m)))
            (λ r m. (all_are (net_of t) (table-sound t walkable) a (only a) r).1 (back h (also-self a (λ n. false)) ((all_are G whole a (only a) r).0 m)));
      }

-- the table of the arrays
pub table-holds : (ends : List (List ℕ)) (ways : List ℕ) (links to : ℕ) (t : List ℕ) → ByNode (net ends ways links to) t → Holds (net ends ways links to) t
table-holds ends ways links to t T =
    let G = net ends ways links to in
    let B = rows-built G refl (sound ends ways links to) (far-inside ends ways links) t T in
    holds G (sound ends ways links to) refl (two_ends ends ways links) t B T.goal

-- a route over it is one over the arrays; and the other way round from a node that is met, as no route passes a link from a node to itself
module _ (ends : List (List ℕ)) (ways : List ℕ) (links to : ℕ) (t : List ℕ) (T : ByNode (net ends ways links to) t) where
  abbrev N : Net
  N = net ends ways links to

  built : Built (Usable (net ends ways links to) (net ends ways links to).links) t
  built = rows-built N refl (sound ends ways links to) (far-inside ends ways links) t T

  pub route-there : {at : ℕ} {met : ℕ → Bool} {r : List ℕ} → IsRoute (net_of t) at met r → IsRoute (net ends ways links to) at met r
  route-there p = there N (sound ends ways links to) refl (two_ends ends ways links) t built T.goal p

  pub route-back : {at : ℕ} {met : ℕ → Bool} {r : List ℕ} → at < 16 → met at ≡ true → IsRoute (net ends ways links to) at met r → IsRoute (net_of t) at met r
  route-back h m p = back N (sound ends ways links to) refl (two_ends ends ways links) t built T.goal h m p

  pub far-kept : (i a f : ℕ) → (net ends ways links to).far i a ≡ some f → a < 16 → (a ≡ f → ⊥) → (net_of t).far i a ≡ some f
  far-kept i a f e h ne =
      far-of N (sound ends ways links to) refl (two_ends ends ways links) t built T.goal i a f (record { below = far-inside ends ways links i a f e; leads = e; apart = ne; node = h })
