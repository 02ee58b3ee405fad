-- The table's sets and the net's links say the same: what holds the links that can be used is the table of the net, and the other way round.
use mathlib.Core.Path.{◌≡◌, refl, sym, ◌∙◌, ap, subst}
use mathlib.Core.Logic.{◌⊎◌, inl, inr}
use mathlib.Core.Bool.{true, false, not, ◌&&◌}
use mathlib.Core.Option.{Option, none, some}
use mathlib.Core.List.{List}
use Prim.Native.Nat.{ℕ, ◌+◌, ◌-◌, ◌^◌, ◌<◌, ◌≤◌}
use native.Mathlib.Omega.{arith}
use borrow.Author.Tests.{eqb-true, eqb-false, eq-eqb, ne_eqb, ltb-true, ltb-false}
use lib.Dec.{eqb, ltb}
use lib.ListN.{get_or}
use Rattle.lists.proofs.Bools.{and_left, and_right, and_both, not-no, no-not, no_true, both-same, both_ways}
use Rattle.lists.proofs.Places.{any_found, first_found}
use Rattle.lists.specs.Places.{any_below}
use Rattle.route.specs.Route.{Net, Sound}
use Rattle.route.proofs.Tests.{either}
use Rattle.route_links.specs.Sets.{has}
use Rattle.route_links.specs.ByNode.{other_than, is_node, leads_out, leads_into, links_out, links_into, joins, nodes_into, ByNode}
use Rattle.route_links.specs.Private.{Kept, Built, Usable}
use Rattle.route_links.proofs.Digits.{digit-below}
use Rattle.route_links.proofs.Places.{set_is, is_set, set-below-is, is-set-below, set-few}

module _ (G : Net) (nodes : G.nodes ≡ 16) (sound : Sound G) (inside : (i a f : ℕ) → G.far i a ≡ some f → i < G.links) where
  -- a link that leads on
  pub out-leads : (i a : ℕ) → a < 16 → leads_out G a i ≡ true → (f : ℕ) × Usable G G.links i a f
  unfolding leads_out
  out-leads i a l e = go (G.far i a) refl e
    where
      go : (o : Option ℕ) → G.far i a ≡ o → other_than a o ≡ true → (f : ℕ) × Usable G G.links i a f
      go none q k = absurd (both_ways k refl)
      go (some f) q k = (f, record { below = inside i a f q; leads = q; apart = λ z. eqb-false f a (no-not (eqb f a) k) (sym z); node = l })

  pub leads-out : (i a f : ℕ) → Usable G G.links i a f → leads_out G a i ≡ true
  unfolding leads_out
  leads-out i a f u = rw (u.leads, ne_eqb f a (λ z. u.apart (sym z))) refl

  into-leads : (i f : ℕ) → leads_into G f i ≡ true → (a : ℕ) × Usable G G.links i a f
  unfolding leads_into
  into-leads i f e =
      let w = first_found (λ a. is_node f (G.far i a) && not (eqb a f)) G.nodes e in
      (_, go _ (G.far i _) refl w.below w.passes)
    where
      go : (a : ℕ) (o : Option ℕ) → G.far i a ≡ o → a < G.nodes → (is_node f o && not (eqb a f)) ≡ true → Usable G G.links i a f
      go a none q l k = absurd (both_ways k refl)
      go a (some g) q l k =
          let z : g ≡ f = eqb-true g f (and_left (eqb g f) (not (eqb a f)) k) in
          let m : G.far i a ≡ some f = q ∙ ap some z in
          record { below = inside i a f m; leads = m; apart = eqb-false a f (no-not (eqb a f) (and_right (eqb g f) (not (eqb a f)) k)); node = subst (λ (n : ℕ). a < n) nodes l }

  leads-into : (i a f : ℕ) → Usable G G.links i a f → leads_into G f i ≡ true
  unfolding leads_into
  leads-into i a f u =
      any_found (λ a. is_node f (G.far i a) && not (eqb a f)) G.nodes a (subst (λ (n : ℕ). a < n) (sym nodes) u.node)
      (rw (u.leads, eq-eqb f f refl, ne_eqb a f u.apart) refl)

  -- no link past the net's
  out-past : (a : ℕ) → a < 16 → (i : ℕ) → G.links ≤ i → leads_out G a i ≡ false
  out-past a l i h = no_true (λ e. let u = (out-leads i a l e).1 in let k = u.below in omega arith)

  into-past : (f i : ℕ) → G.links ≤ i → leads_into G f i ≡ false
  into-past f i h = no_true (λ e. let u = (into-leads i f e).1 in let k = u.below in omega arith)

  -- a node from which a link leads to f
  joins-leads : (a f : ℕ) → a < 16 → joins G f a ≡ true → (i : ℕ) × Usable G G.links i a f
  unfolding joins
  joins-leads a f l e =
      let w = first_found (λ i. is_node f (G.far i a)) G.links (and_left (any_below (λ i. is_node f (G.far i a)) G.links) (not (eqb a f)) e) in
      (_, go _ (G.far _ a) refl w.passes)
    where
      go : (i : ℕ) (o : Option ℕ) → G.far i a ≡ o → is_node f o ≡ true → Usable G G.links i a f
      go i none q k = absurd (both_ways k refl)
      go i (some g) q k =
          let m : G.far i a ≡ some f = q ∙ ap some (eqb-true g f k) in
          record {
            below = inside i a f m;
            leads = m;
            apart = eqb-false a f (no-not (eqb a f) (and_right (any_below (λ i. is_node f (G.far i a)) G.links) (not (eqb a f)) e));
            node = l;
          }

  leads-joins : (i a f : ℕ) → Usable G G.links i a f → joins G f a ≡ true
  unfolding joins
  leads-joins i a f u =
      and_both (any_found (λ i. is_node f (G.far i a)) G.links i u.below (rw (u.leads, eq-eqb f f refl) refl)) (not-no (ne_eqb a f u.apart))

  -- a table with the net's links is the net's table
  pub built-rows : (t : List ℕ) (n : ℕ) → ((i a f : ℕ) → G.far i a ≡ some f → i < n) → Built (Usable G n) t → get_or t 80 0 ≡ G.goal → ByNode G t
  unfolding links_into links_out nodes_into
  built-rows t n whole B goal =
      record {
        size = B.size;
        into = λ f l. is_set (leads_into G f) G.links (get_or t f 0) (B.small f (omega arith)) (into-past f)
            (λ i. both-same (has (get_or t f 0) i) (leads_into G f i) (λ e. (let w = B.ins i f l e in leads-into i w.0 f (all w.1)))
            (λ e. (let w = into-leads i f e in (B.leads i w.0 f (first w.1)).to)));
        out = λ a l. is_set (leads_out G a) G.links (get_or t (16 + a) 0) (B.small (16 + a) (omega arith)) (out-past a l)
            (λ i. both-same (has (get_or t (16 + a) 0) i) (leads_out G a i) (λ e. (let w = B.outs i a l e in leads-out i a w.0 (all w.1)))
            (λ e. (let w = out-leads i a l e in (B.leads i a w.0 (first w.1)).from)));
        sum = λ i a f l q e. (let w = out-leads i a l e in (B.leads i a f (record { below = whole i a f q; leads = q; apart = same q w.1; node = l })).sum);
        unused = λ i h l. B.unused i l (λ a f u. both_ways (leads-out i a f (all u)) (h a u.node));
        goal = goal;
        from = λ f l. is-set-below (joins G f) G.nodes 16 (get_or t (81 + f) 0) nodes (omega arith) (B.few f l)
            (λ a m. both-same (has (get_or t (81 + f) 0) a) (joins G f a) (λ e. (let w = B.froms a f l e in leads-joins w.0 a f (all w.1)))
            (λ e. (let w = joins-leads a f m e in (B.leads w.0 a f (first w.1)).beside)));
      }
    where
      all : {i a f : ℕ} → Usable G n i a f → Usable G G.links i a f
      all {i} {a} {f} u = record { below = inside i a f u.leads; leads = u.leads; apart = u.apart; node = u.node }

      first : {i a f : ℕ} → Usable G G.links i a f → Usable G n i a f
      first {i} {a} {f} u = record { below = whole i a f u.leads; leads = u.leads; apart = u.apart; node = u.node }

      same : {i a f g : ℕ} → G.far i a ≡ some f → Usable G G.links i a g → a ≡ f → ⊥
      same {f = f} {g = g} q u z = u.apart (let e : some f ≡ some g = sym q ∙ u.leads in let w : f ≡ g = cc in z ∙ w)

  -- and the net's table has its links
  module _ (t : List ℕ) (T : ByNode G t) where
    into-is : (f : ℕ) → f < 16 → (i : ℕ) → has (get_or t f 0) i ≡ leads_into G f i
    unfolding links_into
    into-is f l = set_is (leads_into G f) G.links (get_or t f 0) (T.into f l) (into-past f)

    out-is : (a : ℕ) → a < 16 → (i : ℕ) → has (get_or t (16 + a) 0) i ≡ leads_out G a i
    unfolding links_out
    out-is a l = set_is (leads_out G a) G.links (get_or t (16 + a) 0) (T.out a l) (out-past a l)

    from_is : (f : ℕ) → f < 16 → (a : ℕ) → a < 16 → has (get_or t (81 + f) 0) a ≡ joins G f a
    unfolding nodes_into
    from_is f l = set-below-is (joins G f) G.nodes 16 (get_or t (81 + f) 0) nodes (omega arith) (T.from f l)

    from-few : (f : ℕ) → f < 16 → get_or t (81 + f) 0 < 2 ^ 16
    unfolding nodes_into
    from-few f l = set-few (joins G f) G.nodes 16 (get_or t (81 + f) 0) nodes (T.from f l)

    rows-small : (n : ℕ) → n < 32 → get_or t n 0 < 2 ^ 48
    rows-small n h = go (either (ltb n 16))
      where
        go : (ltb n 16 ≡ true) ⊎ (ltb n 16 ≡ false) → get_or t n 0 < 2 ^ 48
        go (inl e) = (T.into n (ltb-true n 16 e)).small
        go (inr e) =
            let l = ltb-false n 16 e in
            let z : 16 + (n - 16) ≡ n = omega arith in
            subst (λ (m : ℕ). get_or t m 0 < 2 ^ 48) z (T.out (n - 16) (omega arith)).small

    kept : (i a f : ℕ) → Usable G G.links i a f → Kept t i a f
    kept i a f u =
        let l : f < 16 = subst (λ (n : ℕ). f < n) nodes (sound i a f u.leads) in
        let e : has (get_or t (16 + a) 0) i ≡ true = out-is a u.node i ∙ leads-out i a f u in
        record {
          place = digit-below 48 (get_or t (16 + a) 0) i (T.out a u.node).small e;
          near = u.node;
          far = l;
          from = e;
          to = into-is f l i ∙ leads-into i a f u;
          beside = from_is f l a u.node ∙ leads-joins i a f u;
          sum = T.sum i a f u.node u.leads (leads-out i a f u);
        }

    pub rows-built : Built (Usable G G.links) t
    rows-built =
        record {
          size = T.size;
          small = rows-small;
          few = from-few;
          ins = λ i f l e. into-leads i f (sym (into-is f l i) ∙ e);
          outs = λ i a l e. out-leads i a l (sym (out-is a l i) ∙ e);
          froms = λ a f l e. (let m = digit-below 16 (get_or t (81 + f) 0) a (from-few f l) e in joins-leads a f m (sym (from_is f l a m) ∙ e));
          leads = kept;
          unused = λ i l h. T.unused i (λ a k. no_true (λ e. (let w = out-leads i a k e in h a w.0 w.1))) l;
        }
