-- The links of an accepted chart from end to end: which end is whose, and that an end belongs to one link.
use Prim.Native.Nat.{ℕ, ◌<◌, ◌≤◌}
use mathlib.Core.Path.{◌≡◌, refl, sym, ap, ◌∙◌, subst}
use mathlib.Core.Logic.{◌⊎◌, inl, inr}
use mathlib.Core.Bool.{Bool, true, false, cond, ◌&&◌, ◌||◌}
use mathlib.Core.Option.{Option, none, some, none-ne-some, some-injective}
use native.Mathlib.Decide.{dec_lt}
use native.Mathlib.Omega.{arith}
use lib.Dec.{ltb, leb}
use borrow.Author.Tests.{ltb-true, leb-true}
use Rattle.lists.proofs.Places.{any_false}
use Rattle.lists.proofs.Bools.{and_left, and_right, both_ways, or-no-left, or-no-right}
use Rattle.address.specs.declared.Station.{Station}
use Rattle.address.specs.declared.Address.{Address}
use Rattle.address.specs.Address.{station_of, station_in_range, in_range, same_station, same_address}
use Rattle.address.proofs.Laws.{same_refl}
use Rattle.chart.specs.declared.Link.{Link}
use Rattle.chart.specs.declared.Links.{Links}
use Rattle.chart.specs.declared.Chart.{Chart}
use Rattle.chart.specs.Values.{node_at, link_at, end_in_range, direction_in_range, link_in_range, ends_at, has_end}
use Rattle.chart_refuse.specs.Refusal.{links_before}
use Rattle.chart_refuse.specs.Promises.{Accepted}
use Rattle.chart_net.specs.Net.{station_place, goes_out, goes_back, across, placed, far_end}
use Rattle.chart_net.proofs.Kept.{net-sound}
use Rattle.chart_net.proofs.Places.{crossed, station-eq, station-refl, own-place, stands-there}
use Rattle.table_write.specs.Writing.{near_end}
use Rattle.class.specs.Class.{away_end}

-- the station of the node at a place; the ends of link i by which one leaves that node, and at which one comes in from there
abbrev pub station_at : Chart → ℕ → Station
station_at c a = (node_at c.nodes a).station

abbrev pub near_of : Chart → ℕ → ℕ → Address
near_of c i a = near_end (link_at c.links i) (station_at c a)

abbrev pub away_of : Chart → ℕ → ℕ → Address
away_of c i a = away_end (link_at c.links i) (station_at c a)

-- a link that is passed from a station is on, its near end stands there, and the other where it leads
record Crossed (l : Link) (s t : Station) : Type 0 where
  lit : l.on ≡ true
  near : station_of (near_end l s) ≡ s
  away : station_of (away_end l s) ≡ t

crossed-ends : (l : Link) (s t : Station) → across l s ≡ some t → Crossed l s t
unfolding near_end away_end
crossed-ends l s t = go l.on (goes_out l && same_station (station_of l.a) s) (goes_back l && same_station (station_of l.b) s) refl refl refl
  where
    a : Station
    a = station_of l.a

    b : Station
    b = station_of l.b

    second : (p : Bool) → same_station (station_of l.a) s ≡ p → station_of l.b ≡ s → station_of l.a ≡ t
        → (station_of (cond p l.a l.b) ≡ s) × (station_of (cond p l.b l.a) ≡ t)
    second true u v e = (station-eq a s u, v ∙ sym (station-eq a s u) ∙ e)
    second false u v e = (v, e)

    go : (on x y : Bool) → l.on ≡ on → (goes_out l && same_station (station_of l.a) s) ≡ x → (goes_back l && same_station (station_of l.b) s) ≡ y
        → crossed on x y l ≡ some t → Crossed l s t
    go false x y o u v h = absurd (none-ne-some t h)
    go true true y o u v h =
        let p = and_right (goes_out l) (same_station a s) u in
        record { lit = o; near = rw p (station-eq a s p); away = rw p (some-injective _ _ h) }
    go true false true o u v h =
        let w = second (same_station a s) refl (station-eq b s (and_right (goes_back l) (same_station b s) v)) (some-injective _ _ h) in
        record { lit = o; near = w.0; away = w.1 }
    go true false false o u v h = absurd (none-ne-some t h)

-- ---- ends

-- the address is an end of the link
abbrev End : Address → Link → Type 0
End e l = (l.a ≡ e) ⊎ (l.b ≡ e)

near-is-end : (l : Link) (s : Station) → End (near_end l s) l
unfolding near_end
near-is-end l s = go (same_station (station_of l.a) s)
  where
    go : (b : Bool) → End (cond b l.a l.b) l
    go true = inl refl
    go false = inr refl

away-is-end : (l : Link) (s : Station) → End (away_end l s) l
unfolding away_end
away-is-end l s = go (same_station (station_of l.a) s)
  where
    go : (b : Bool) → End (cond b l.b l.a) l
    go true = inr refl
    go false = inl refl

end-ranged : (form : ℕ) (e : Address) (l : Link) → link_in_range form l ≡ true → End e l → end_in_range e ≡ true
unfolding link_in_range
end-ranged form e l h = go
  where
    both : (end_in_range l.a && end_in_range l.b) ≡ true
    both = and_left (end_in_range l.a && end_in_range l.b) (direction_in_range form l.direction) h

    go : End e l → end_in_range e ≡ true
    go (inl q) = ap end_in_range (sym q) ∙ and_left (end_in_range l.a) (end_in_range l.b) both
    go (inr q) = ap end_in_range (sym q) ∙ and_right (end_in_range l.a) (end_in_range l.b) both

port-low : (e : Address) → end_in_range e ≡ true → 1 ≤ e.port.0
unfolding end_in_range
port-low e h = leb-true 1 e.port.0 (and_left (leb 1 e.port.0) (in_range e) h)

port-high : (e : Address) → end_in_range e ≡ true → leb e.port.0 63 ≡ true
unfolding end_in_range in_range
port-high e h = and_right (station_in_range (station_of e)) (leb e.port.0 63) (and_right (leb 1 e.port.0) (in_range e) h)

address-eq : (x y : Address) → station_of x ≡ station_of y → x.port.0 ≡ y.port.0 → x ≡ y
address-eq x y e p = λ j. record { brigade = (e j).brigade; node = (e j).node; port = record { 0 = p j } }

-- an address that none of the links has
not_end : (ls : Links) (e : Address) (i : ℕ) → has_end ls e ≡ false → i < ls.count → End e (link_at ls i) → ⊥
unfolding has_end ends_at
not_end ls e i h l = go
  where
    a : Address
    a = (link_at ls i).a

    b : Address
    b = (link_at ls i).b

    neither : (same_address a e || same_address b e) ≡ false
    neither = any_false (ends_at ls e) ls.count i h l

    same : (x : Address) → x ≡ e → same_address x e ≡ true
    same x q = ap (λ (y : Address). same_address y e) q ∙ same_refl e

    go : End e (link_at ls i) → ⊥
    go (inl q) = both_ways (same a q) (or-no-left (same_address a e) (same_address b e) neither)
    go (inr q) = both_ways (same b q) (or-no-right (same_address a e) (same_address b e) neither)

module _ (c : Chart) (ok : Accepted c) where
  -- an end of a link is no end of an earlier one
  not-before : (e : Address) (i j : ℕ) → i < j → j < c.links.count → End e (link_at c.links i) → End e (link_at c.links j) → ⊥
  unfolding link_at
  not-before e i j l h p = go
    where
      clash : (x : Address) → has_end (links_before c.links j) x ≡ false → x ≡ e → ⊥
      clash x f z = not_end (links_before c.links j) x i f l (subst (λ (y : Address). End y (link_at c.links i)) (sym z) p)

      go : End e (link_at c.links j) → ⊥
      go (inl z) = clash (link_at c.links j).a (ok.joins j h).a_once z
      go (inr z) = clash (link_at c.links j).b (ok.joins j h).b_once z

  -- an end belongs to one link
  one_end : (e : Address) (i j : ℕ) → i < c.links.count → j < c.links.count → End e (link_at c.links i) → End e (link_at c.links j) → i ≡ j
  one_end e i j hi hj p q = go (dec_lt i j) (dec_lt j i)
    where
      go : Dec (i < j) → Dec (j < i) → i ≡ j
      go (yes t) u = absurd (not-before e i j t hj p q)
      go (no t) (yes u) = absurd (not-before e j i u hi q p)
      go (no t) (no u) = omega arith

  -- ---- over a link

  -- link i leads from a to f: it is on, its near end stands at a, and the other at f
  pub record Over (i a f : ℕ) : Type 0 where
    pub there : i < c.links.count
    pub lit : (link_at c.links i).on ≡ true
    pub near : station_of (near_of c i a) ≡ station_at c a
    pub away : station_of (away_of c i a) ≡ station_at c f
    pub node : f < c.nodes.count

  -- a station with the place of a node is that node's
  pub at-node : (t : Station) (f : ℕ) → station_place c.nodes t ≡ f → f < c.nodes.count → t ≡ station_at c f
  at-node t f e h = sym (station-eq (station_at c f) t (stands-there c.nodes ok.once t f e h))

  pub over : (i a f : ℕ) → far_end c.nodes c.links i a ≡ some f → Over i a f
  unfolding far_end
  over i a f e = go (ltb i c.links.count) refl e
    where
      node : f < c.nodes.count
      node = net-sound c ok c.to i a f e

      on : i < c.links.count → (o : Option Station) → across (link_at c.links i) (station_at c a) ≡ o → placed c.nodes o ≡ some f → Over i a f
      on h none q z = absurd (none-ne-some f z)
      on h (some t) q z =
          let x = crossed-ends (link_at c.links i) (station_at c a) t q in
          record { there = h; lit = x.lit; near = x.near; away = x.away ∙ at-node t f (some-injective _ _ z) node; node = node }

      go : (b : Bool) → ltb i c.links.count ≡ b → cond b (placed c.nodes (across (link_at c.links i) (station_at c a))) none ≡ some f
          → Over i a f
      go false t q = absurd (none-ne-some f q)
      go true t q = on (ltb-true i c.links.count t) (across (link_at c.links i) (station_at c a)) refl q

  -- its ports
  pub near-low : (i a f : ℕ) → Over i a f → 1 ≤ (near_of c i a).port.0
  near-low i a f o =
      port-low (near_of c i a) (end-ranged c.links.form (near_of c i a) (link_at c.links i) (ok.joins i o.there).ranged (near-is-end _ _))

  pub away-high : (i a f : ℕ) → Over i a f → leb (away_of c i a).port.0 63 ≡ true
  away-high i a f o =
      port-high (away_of c i a) (end-ranged c.links.form (away_of c i a) (link_at c.links i) (ok.joins i o.there).ranged (away-is-end _ _))

  -- two links that leave a node by the same port are one
  pub one-port : (a i j f g : ℕ) → Over i a f → Over j a g → (near_of c i a).port.0 ≡ (near_of c j a).port.0 → i ≡ j
  one-port a i j f g o p q =
      let z : near_of c i a ≡ near_of c j a = address-eq _ _ (o.near ∙ sym p.near) q in
      one_end (near_of c j a) i j o.there p.there (subst (λ (x : Address). End x (link_at c.links i)) z (near-is-end _ _)) (near-is-end _ _)

  -- who turns back over a link comes to its near end
  turned : (i a f : ℕ) → Over i a f → away_of c i f ≡ near_of c i a
  unfolding away_end near_end
  turned i a f o = go (same_station (station_of (link_at c.links i).a) (station_at c a)) o.away
    where
      la : Address
      la = (link_at c.links i).a

      lb : Address
      lb = (link_at c.links i).b

      t : Station
      t = station_at c f

      go : (b : Bool) → station_of (cond b lb la) ≡ t → cond (same_station (station_of la) t) lb la ≡ cond b la lb
      go true z = rw (ap (same_station (station_of la)) (sym z) ∙ (ok.joins i o.there).apart)
      go false z = rw (ap (same_station (station_of la)) (sym z) ∙ station-refl (station_of la))

  -- a link that leaves a node by the port where one came in leads back
  pub leads-back : (a i f j g : ℕ) → a < c.nodes.count → Over i a f → Over j f g → (near_of c j f).port.0 ≡ (away_of c i a).port.0 → g ≡ a
  leads-back a i f j g h o p q =
      let z : near_of c j f ≡ away_of c i a = address-eq _ _ (p.near ∙ sym o.away) q in
      let same : i ≡ j =
      one_end (away_of c i a) i j o.there p.there (away-is-end _ _) (subst (λ (x : Address). End x (link_at c.links j)) z (near-is-end _ _))
      in
      let back : station_at c g ≡ station_at c a =
      sym p.away ∙ ap (λ (k : ℕ). station_of (away_of c k f)) (sym same) ∙ ap (λ (x : Address). station_of x) (turned i a f o) ∙ o.near
      in
      sym (own-place c.nodes ok.once g p.node) ∙ ap (station_place c.nodes) back ∙ own-place c.nodes ok.once a h
