-- The nodes of a way: each that is new is unlike all before it.
use Prim.Native.Nat.{ℕ, zero, suc, ◌<◌}
use mathlib.Core.Path.{◌≡◌, refl, sym, ap, ◌∙◌, subst}
use mathlib.Core.Logic.{◌⊎◌, inl, inr}
use mathlib.Core.Bool.{Bool, true, false}
use mathlib.Core.List.Memᴰ
use mathlib.Core.List.{List, [], ◌∷◌, ◌++◌, append-nil, Memᴰ}
use native.Mathlib.Decide.{ℕ_discrete}
use native.Mathlib.Omega.{arith}
use borrow.Author.Tests.{ne_eqb}
use Rattle.lists.proofs.Bools.{both_ways}
use Rattle.address.specs.declared.Address.{Address}
use Rattle.table.specs.declared.Table.{Table}
use Rattle.chart.specs.declared.Chart.{Chart}
use Rattle.chart_refuse.specs.Promises.{Accepted}
use Rattle.route.specs.Route.{also, only}
use Rattle.route.proofs.Laws.{also-self, also-other}
use Rattle.route_links.specs.Sets.{has}
use Rattle.class.specs.declared.Message.{Message}
use Rattle.class.specs.Class.{under_way, met_before, Arrival, begun_at, ended_with, step_on, steps_on, new_place, places_on, way_from, ending_from}
use Rattle.class.specs.Promises.{AllDifferent, WayTells}
use Rattle.class.proofs.Ports.{comes-in}
use Rattle.class.proofs.Steps.{Ended, met-only, met-new, met_again, met_new, Stepped, halted, again, further, stepped, steps-ended, steps-more, places-ended, places-more, few-places}

-- ---- lists of nodes, with some nodes met

-- they are all different, and none of them is met
pub record Fresh (met : ℕ → Bool) (l : List ℕ) : Type 0 where
  pub different : AllDifferent l
  pub unmet : (x : ℕ) → Memᴰ x l → met x ≡ false

fresh-none : (met : ℕ → Bool) → Fresh met []
fresh-none met = record { different = record {}; unmet = λ x h. absurd (Memᴰ.not-nil h) }

-- after a node that is not met
fresh-more : (met : ℕ → Bool) (f : ℕ) (l : List ℕ) → met f ≡ false → Fresh (also f met) l → Fresh met (f ∷ l)
fresh-more met f l h k =
    record {
      different = (λ q. both_ways (also-self f met) (k.unmet f q), k.different);
      unmet = λ x q. go x (Memᴰ.cases_cons q);
    }
  where
    rest : (x : ℕ) → Memᴰ x l → Dec (x ≡ f) → met x ≡ false
    rest x q (yes e) = ap met e ∙ h
    rest x q (no e) = sym (also-other f met x e) ∙ k.unmet x q

    go : (x : ℕ) → (x ≡ f) ⊎ Memᴰ x l → met x ≡ false
    go x (inl e) = ap met e ∙ h
    go x (inr q) = rest x q (ℕ_discrete x f)

-- what these nodes tell of an ending: they are fresh, but for an ending at a node met before, which comes last
pub record Tells (met : ℕ → Bool) (l : List ℕ) (ending : ℕ) : Type 0 where
  pub different : (ending ≡ met_before → ⊥) → Fresh met l
  pub again : ending ≡ met_before → (w : List ℕ) × (f : ℕ) × (l ≡ w ++ (f ∷ [])) × Fresh met w × ((met f ≡ true) ⊎ Memᴰ f w)

tells_more : (met : ℕ → Bool) (f : ℕ) (l : List ℕ) (ending : ℕ) → met f ≡ false → Tells (also f met) l ending → Tells met (f ∷ l) ending
tells_more met f l ending h t = record { different = λ q. fresh-more met f l h (t.different q); again = λ q. back (t.again q) }
  where
    within : (w : List ℕ) (g : ℕ) → (also f met g ≡ true) ⊎ Memᴰ g w → Dec (g ≡ f) → (met g ≡ true) ⊎ Memᴰ g (f ∷ w)
    within w g s (yes e) = inr (Memᴰ.head e)
    within w g (inl q) (no e) = inl (sym (also-other f met g e) ∙ q)
    within w g (inr q) (no e) = inr (Memᴰ.tail q)

    back : (w : List ℕ) × (g : ℕ) × (l ≡ w ++ (g ∷ [])) × Fresh (also f met) w × ((also f met g ≡ true) ⊎ Memᴰ g w)
        → (w : List ℕ) × (g : ℕ) × (f ∷ l ≡ w ++ (g ∷ [])) × Fresh met w × ((met g ≡ true) ⊎ Memᴰ g w)
    back (w, g, e, k, s) = (f ∷ w, g, ap (λ (x : List ℕ). f ∷ x) e, fresh-more met f w h k, within w g s (ℕ_discrete g f))

-- ---- the nodes that n steps come to

module _ (c : Chart) (ok : Accepted c) (ts : ℕ → Table) (d : Address) where
  -- what n steps of a message tell
  abbrev Told : ℕ → Message → Type 0
  Told n m = Tells (has m.met) (places_on c ts d n m) (steps_on c ts d n m).ending

  -- after a step to m', and where that one has ended
  told_more : (n : ℕ) (m m' : Message) → m.ending ≡ under_way → step_on c ts d m ≡ m'
      → Tells (has m.met) (new_place c ts d m' ++ places_on c ts d n m') (steps_on c ts d n m').ending → Told (suc n) m
  told_more n m m' u e t =
      let p : places_on c ts d (suc n) m ≡ new_place c ts d m' ++ places_on c ts d n m' = places-more c ts d n m m' u e in
      let q : steps_on c ts d (suc n) m ≡ steps_on c ts d n m' = steps-more c ts d n m m' e in
      subst (λ (x : List ℕ). Tells (has m.met) x (steps_on c ts d (suc n) m).ending) (sym p)
      (subst (λ (x : Message). Tells (has m.met) (new_place c ts d m' ++ places_on c ts d n m') x.ending) (sym q) t)

  told-ended : (n : ℕ) (m m' : Message) → m.ending ≡ under_way → step_on c ts d m ≡ m' → Ended m' → Tells (has m.met) (new_place c ts d m') m'.ending
      → Told (suc n) m
  told-ended n m m' u e h t =
      let p : new_place c ts d m' ++ places_on c ts d n m' ≡ new_place c ts d m' =
      ap (λ (x : List ℕ). new_place c ts d m' ++ x) (places-ended c ts d n m' h) ∙ append-nil (new_place c ts d m')
      in
      told_more n m m' u e
      (subst (λ (x : List ℕ). Tells (has m.met) x (steps_on c ts d n m').ending) (sym p)
      (subst (λ (x : Message). Tells (has m.met) (new_place c ts d m') x.ending) (sym (steps-ended c ts d n m' h)) t))

  -- a step that halts comes to no node
  none-new : (m : Message) (k : ℕ) → 0 < k → k < met_before → new_place c ts d (ended_with k m) ≡ []
  unfolding new_place ended_with
  none-new m k l h = rw (ne_eqb k 0 (λ q. omega arith), ne_eqb k 4 (λ q. omega arith))

  module _ (n : ℕ) (m : Message) (u : m.ending ≡ under_way) where
    told-halted : (k : ℕ) → 0 < k → k < met_before → step_on c ts d m ≡ ended_with k m → Told (suc n) m
    unfolding ended_with
    told-halted k l h e =
        told-ended n m (ended_with k m) u e (λ q. omega arith)
        (subst (λ (x : List ℕ). Tells (has m.met) x k) (sym (none-new m k l h))
        (record { different = λ q. fresh-none (has m.met); again = λ q. absurd (omega arith) }))

    told-again : (x : Arrival) → has m.met x.node ≡ true → step_on c ts d m ≡ met_again m x → Told (suc n) m
    unfolding new_place
    told-again x h e =
        told-ended n m (met_again m x) u e (λ q. omega arith)
        (record { different = λ q. absurd (q refl); again = λ q. ([], x.node, refl, fresh-none (has m.met), inl h) })

    told-onward : (x : Arrival) → x.node < 64 → has m.met x.node ≡ false → step_on c ts d m ≡ met_new m x → Told n (met_new m x) → Told (suc n) m
    unfolding new_place
    told-onward x l h e t =
        let f = x.node in
        told_more n m (met_new m x) u e
        (tells_more (has m.met) f (places_on c ts d n (met_new m x)) (steps_on c ts d n (met_new m x)).ending h
        (subst (λ (met : ℕ → Bool). Tells met (places_on c ts d n (met_new m x)) (steps_on c ts d n (met_new m x)).ending) (met-new m x l h) t))

  told : (n : ℕ) (m : Message) → m.ending ≡ under_way → Told n m
  unfolding places_on steps_on
  told zero m u = record { different = λ q. fresh-none (has m.met); again = λ q. absurd (omega arith) }
  told (suc n) m u = go (λ x. told n (met_new m x) refl) (stepped c ts d m u)
    where
      go : ((x : Arrival) → Told n (met_new m x)) → Stepped c ts d m → Told (suc n) m
      go below (halted k l h e) = told-halted n m u k l h e
      go below (again x w h e) = told-again n m u x h e
      go below (further x w h e) = told-onward n m u x (omega (arith, (comes-in c ok m.at w.by x w.out).0, ok.few_nodes)) h e (below x)

  pub way-tells : (a : ℕ) → a < c.nodes.count → WayTells c ts d a
  unfolding way_from ending_from begun_at only
  way-tells a h =
      let n = c.nodes.count in
      let m = begun_at a in
      let t : Tells (only a) (places_on c ts d n m) (steps_on c ts d n m).ending =
      subst (λ (met : ℕ → Bool). Tells met (places_on c ts d n m) (steps_on c ts d n m).ending) (met-only a (omega (arith, ok.few_nodes))) (told n m refl)
      in
      let w = tells_more (λ x. false) a (places_on c ts d n m) (steps_on c ts d n m).ending refl t in
      record {
        short = omega (arith, few-places c ts d n m);
        different = λ q. (w.different q).different;
        again = λ q. back (w.again q);
      }
    where
      back : (w : List ℕ) × (f : ℕ) × (way_from c ts d a ≡ w ++ (f ∷ [])) × Fresh (λ x. false) w × ((false ≡ true) ⊎ Memᴰ f w)
          → (w : List ℕ) × (f : ℕ) × (way_from c ts d a ≡ w ++ (f ∷ [])) × AllDifferent w × Memᴰ f w
      back (w, f, e, k, inl q) = absurd (both_ways q refl)
      back (w, f, e, k, inr q) = (w, f, e, k.different, q)
