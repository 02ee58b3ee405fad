-- The code looks for the link by its ends, the definition by its far end: in an accepted chart they find the same.
use Prim.Native.Nat.{ℕ, zero, suc, ◌<◌, ◌≤◌}
use mathlib.Core.Path.{◌≡◌, refl, sym, ap, ap₂, ◌∙◌}
use mathlib.Core.Bool.{Bool, true, false, not, cond, ◌&&◌, ◌||◌, and-true, and-false, or-false}
use mathlib.Core.Option.{Option, none, some}
use native.Mathlib.Omega.{arith}
use lib.Dec.{eqb, leb}
use borrow.Author.Tests.{le-ltb, leb-true, eqb-true}
use Rattle.lists.specs.Places.{any_below, first_below}
use Rattle.lists.proofs.Bools.{and_right, both_ways}
use Rattle.lists.proofs.Places.{first-stop, first-none, first-agree, first_found, first_below-any}
use Rattle.address.specs.declared.Port.{Port}
use Rattle.address.specs.declared.Station.{Station}
use Rattle.address.specs.declared.Address.{Address}
use Rattle.address.specs.Address.{station_of, same_station}
use Rattle.chart.specs.declared.Link.{Link}
use Rattle.chart.specs.declared.Links.{Links}
use Rattle.chart.specs.declared.Nodes.{Nodes}
use Rattle.chart.specs.declared.Chart.{Chart}
use Rattle.chart.specs.Values.{node_at, link_at, end_in_range, direction_in_range, link_in_range}
use Rattle.chart_refuse.specs.Promises.{Accepted}
use Rattle.chart_net.specs.Net.{station_place, goes_out, goes_back, across, placed, far_end}
use Rattle.chart_net.specs.Private.{station_place_for}
use Rattle.chart_net.proofs.Kept.{far-there}
use Rattle.chart_net.proofs.Places.{crossed, station-eq, station-refl, own-place, place-few}
use Rattle.table_write.specs.Writing.{near_end}
use Rattle.std.specs.declared.option.Option.TheVariants.{None, Some}
use Rattle.class.specs.declared.links.Coming.{Coming}
use Rattle.class.specs.Class.{is_there, leaves_by, away_end, came_in, came_over, out_by}
use Rattle.class.specs.Private.{coming_of, leaves_first, leaves_second, leaves_at}
use Rattle.class.proofs.Ends.{away_of, over}
use Rattle.class.proofs.Ports.{leaves-over}

-- ---- as the code has it

-- the other end
module _ (l : Link) (s : Station) where
  pub away-second : same_station (station_of l.a) s ≡ true → l.b ≡ away_end l s
  unfolding away_end
  away-second h = rw h

  pub away-first : same_station (station_of l.a) s ≡ false → l.a ≡ away_end l s
  unfolding away_end
  away-first h = rw h

-- the links one by one
module _ (ls : Links) (s : Station) (p : Port) where
  pub leaves-read : (i : ℕ) {l : Link} {x y : Bool} → l ≡ link_at ls i → x ≡ leaves_first l s p → y ≡ leaves_second l s p → (x || y) ≡ leaves_at ls s p i
  unfolding leaves_at
  leaves-read i q e f = rw (e, f, q)

  pub exit-here : (i : ℕ) → i < ls.count → any_below (leaves_at ls s p) i ≡ false → leaves_at ls s p i ≡ true → i ≡ first_below (leaves_at ls s p) ls.count
  exit-here i l n e = sym (first-stop (leaves_at ls s p) ls.count i (record { below = l; passes = e; none_before = n }))

  pub exit-none : {i : ℕ} → i ≡ ls.count → any_below (leaves_at ls s p) i ≡ false → ls.count ≡ first_below (leaves_at ls s p) ls.count
  exit-none e n = sym (first-none (leaves_at ls s p) ls.count (ap (any_below (leaves_at ls s p)) (sym e) ∙ n))

-- where it comes in, if there is such a link
pub coming-none : coming_of None ≡ none
unfolding coming_of
coming-none = refl

pub coming-some : (x : Coming) → coming_of (Some x) ≡ some (record { node = x.node; port = x.port })
unfolding coming_of
coming-some x = refl

-- ---- the two ends of a link

-- a direction in range: not back is out, not out is back
out_of : (d : ℕ) → d ≤ 2 → not (eqb d 2) ≡ (eqb d 0 || eqb d 1)
out_of zero h = refl
out_of (suc zero) h = refl
out_of (suc (suc zero)) h = refl
out_of (suc (suc (suc d))) h = absurd (omega arith)

back-of : (d : ℕ) → d ≤ 2 → not (eqb d 1) ≡ (eqb d 0 || eqb d 2)
back-of zero h = refl
back-of (suc zero) h = refl
back-of (suc (suc zero)) h = refl
back-of (suc (suc (suc d))) h = absurd (omega arith)

ranged-direction : (form d : ℕ) → direction_in_range form d ≡ true → d ≤ 2
unfolding direction_in_range
ranged-direction form d = go (eqb form 2)
  where
    go : (x : Bool) → cond x (eqb d 0) (eqb form 4 && leb d 2) ≡ true → d ≤ 2
    go true h = let e = eqb-true d 0 h in omega arith
    go false h = leb-true d 2 (and_right (eqb form 4) (leb d 2) h)

link-direction : (form : ℕ) (l : Link) → link_in_range form l ≡ true → l.direction ≤ 2
unfolding link_in_range
link-direction form l h = ranged-direction form l.direction (and_right (end_in_range l.a && end_in_range l.b) _ h)

-- ---- one link

-- there is a far end
abbrev stands : Option Station → Bool
stands none = false
stands (some t) = true

there-placed : (ns : Nodes) (o : Option Station) → is_there (placed ns o) ≡ stands o
there-placed ns none = refl
there-placed ns (some t) = refl

module _ (l : Link) where
  by_first : (on out : Bool) → stands (crossed on out false l) ≡ (on && out)
  by_first false out = refl
  by_first true false = refl
  by_first true true = refl

  by-second : (on back : Bool) → stands (crossed on false back l) ≡ (on && back)
  by-second false back = refl
  by-second true false = refl
  by-second true true = refl

  -- it is passed from an end that stands here, and that end has the port; the two ends do not both stand here
  either_end : (on out back first second p q : Bool) → (first ≡ true → second ≡ true → ⊥)
      → (on && out && p && first || on && back && q && second) ≡ (stands (crossed on (out && first) (back && second) l) && cond first p q)
  either_end on out back true true p q h = absurd (h refl refl)
  either_end on out back true false p q h = simp (and-true, and-false, or-false, by_first)
  either_end on out back false true p q h = simp (and-true, and-false, by-second)
  either_end on out back false false p q h = simp (and-false, by-second)

  near-port : (first : Bool) (p : ℕ) → eqb (cond first l.a l.b).port.0 p ≡ cond first (eqb l.a.port.0 p) (eqb l.b.port.0 p)
  near-port true p = refl
  near-port false p = refl

  one_link : (s : Station) (p : Port) → l.direction ≤ 2 → same_station (station_of l.a) (station_of l.b) ≡ false
      → (leaves_first l s p || leaves_second l s p) ≡ (stands (across l s) && eqb (near_end l s).port.0 p.0)
  unfolding leaves_first leaves_second near_end goes_out goes_back
  one_link s p h apart =
      rw (out_of l.direction h, back-of l.direction h, near-port)
      (either_end l.on (goes_out l) (goes_back l) (same_station (station_of l.a) s) (same_station (station_of l.b) s) (eqb l.a.port.0 p.0)
      (eqb l.b.port.0 p.0) two)
    where
      two : same_station (station_of l.a) s ≡ true → same_station (station_of l.b) s ≡ true → ⊥
      two e f = both_ways (ap (same_station (station_of l.a)) (station-eq _ _ f ∙ sym (station-eq _ _ e)) ∙ station-refl (station_of l.a)) apart

-- ---- in an accepted chart

module _ (c : Chart) (ok : Accepted c) (a : ℕ) (p : Port) where
  agree : (i : ℕ) → i < c.links.count → leaves_at c.links (node_at c.nodes a).station p i ≡ leaves_by c a p i
  unfolding leaves_at leaves_by
  agree i h =
      let l = link_at c.links i in
      let s = (node_at c.nodes a).station in
      let j = ok.joins i h in
      let there = ap is_there (far-there c.nodes c.links i a h) ∙ there-placed c.nodes (across l s) in
      one_link l s p (link-direction c.links.form l j.ranged) j.apart
      ∙ ap (λ (b : Bool). b && eqb (near_end l s).port.0 p.0) (sym there)

  same_first : first_below (leaves_at c.links (node_at c.nodes a).station p) c.links.count ≡ first_below (leaves_by c a p) c.links.count
  same_first = first-agree _ _ c.links.count agree

  -- the link that the code finds for the station that it read
  module _ (i : ℕ) (s : Station) (here : s ≡ (node_at c.nodes a).station) (e : i ≡ first_below (leaves_at c.links s p) c.links.count) where
    first : i ≡ first_below (leaves_by c a p) c.links.count
    first = e ∙ ap (λ (t : Station). first_below (leaves_at c.links t p) c.links.count) here ∙ same_first

    -- no link leaves by the port
    pub out_none : c.links.count ≤ i → none ≡ out_by c a p
    unfolding out_by came_over far_end
    out_none h =
        let k = first_below (leaves_by c a p) c.links.count in
        let q : i ≡ k = first in
        let m : c.links.count ≤ k = omega arith in
        rw (le-ltb k c.links.count m)

    -- the first that does leads to its other end
    pub out-here : i < c.links.count
        → some (record { node = station_place c.nodes (station_of (away_of c i a)); port = (away_of c i a).port }) ≡ out_by c a p
    unfolding out_by came_over
    out-here h =
        let k = first_below (leaves_by c a p) c.links.count in
        let q : i ≡ k = first in
        let m : k < c.links.count = omega arith in
        let w = leaves-over c ok a p k (first_found (leaves_by c a p) c.links.count (first_below-any (leaves_by c a p) c.links.count m)).passes in
        let o = over c ok k a w.0 w.1 in
        let node : station_place c.nodes (station_of (away_of c k a)) ≡ w.0 =
        ap (station_place c.nodes) o.away ∙ own-place c.nodes ok.once w.0 o.node
        in
        ap (λ (j : ℕ). some (record { node = station_place c.nodes (station_of (away_of c j a)); port = (away_of c j a).port })) q
        ∙ ap (λ (f : ℕ). some (record { node = f; port = (away_of c k a).port })) node
        ∙ sym (ap (came_in (away_of c k a).port) w.1)

    -- as the code finds it, step by step
    pub out-told : i < c.links.count → {l : Link} {t : Station} {x : Address} {k : ℕ} → l ≡ link_at c.links i → x ≡ away_end l s → t ≡ station_of x
        → k ≡ station_place_for c.nodes t → some (record { node = k; port = x.port }) ≡ out_by c a p
    out-told h l x t k =
        let away = x ∙ ap₂ away_end l here in
        let node = k ∙ place-few c.nodes _ ok.few_nodes ∙ ap (station_place c.nodes) (t ∙ ap (λ (y : Address). station_of y) away) in
        ap₂ (λ (n : ℕ) (q : Port). some (record { node = n; port = q })) node (ap (λ (y : Address). y.port) away) ∙ out-here h
