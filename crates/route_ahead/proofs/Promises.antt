-- The theorems that specs/Promises states.
use mathlib.Core.Path.{◌≡◌, refl, sym, ◌∙◌, ap}
use mathlib.Core.Logic.{◌⊎◌, inl, inr}
use mathlib.Core.Bool.{Bool, true, false, ◌||◌}
use mathlib.Core.Option.{Option, none, some}
use mathlib.Core.List.{List, [], ◌∷◌, ◌++◌, Memᴰ}
use Prim.Native.Nat.{ℕ, ◌≤◌}
use native.Mathlib.Omega.{arith}
use borrow.Author.Tests.{eqb-true, eq-eqb}
use lib.Dec.{eqb}
use Rattle.lists.proofs.Bools.{no-not, no_true, both_ways, both-same}
use Rattle.route.specs.Route.{Net, Sound, also, IsRoute, passed}
use Rattle.route.specs.All.{all_from}
use Rattle.route.proofs.Laws.{all_are}
use Rattle.route_links.specs.Arrays.{net}
use Rattle.route_links.specs.Sets.{has, places_in}
use Rattle.route_links.specs.ByNode.{ByNode}
use Rattle.route_links.specs.Private.{net_of, met_of, Holds}
use Rattle.route_links.proofs.Arrays.{sound}
use Rattle.route_links.proofs.Places.{where-equal, has-where}
use Rattle.route_links.proofs.Table.{table-holds, route-there, route-back, far-kept}
use Rattle.route_ahead.specs.Ahead.{Begins, Worth, Asked, LooksAhead}
use Rattle.route_ahead.specs.Promises.{begins_with, begins_one, first_links, Goes, stepped, NoStepInVain, fresh_end, AtNode, KeepsFirstLinks}

-- ---- a list of routes, and the links they begin with

or_cases : (x y : Bool) → (x || y) ≡ true → (x ≡ true) ⊎ (y ≡ true)
or_cases true y e = inl refl
or_cases false y e = inr e

one-begins : (i : ℕ) (l : List (List ℕ)) → begins_one i l ≡ true → (r : List ℕ) × Memᴰ (i ∷ r) l
unfolding begins_one begins_with
one-begins i [] e = absurd (both_ways e refl)
one-begins i ([] ∷ l) e = let w = one-begins i l e in (w.0, Memᴰ.tail w.1)
one-begins i ((j ∷ r) ∷ l) e = go (or_cases (eqb j i) (begins_one i l) e) (λ h. one-begins i l h)
  where
    go : (eqb j i ≡ true) ⊎ (begins_one i l ≡ true) → (begins_one i l ≡ true → (r : List ℕ) × Memᴰ (i ∷ r) l) → (s : List ℕ) × Memᴰ (i ∷ s) ((j ∷ r) ∷ l)
    go (inl h) ih = (r, Memᴰ.head (ap (λ (k : ℕ). k ∷ r) (sym (eqb-true j i h))))
    go (inr h) ih = let w = ih h in (w.0, Memᴰ.tail w.1)

begins-one : (i : ℕ) (r : List ℕ) (l : List (List ℕ)) → Memᴰ (i ∷ r) l → begins_one i l ≡ true
unfolding begins_one begins_with
begins-one i r [] x' = elim x' [ ]
begins-one i r (s ∷ l) (Memᴰ.head e) = ap (λ q. begins_with i q || begins_one i l) (sym e) ∙ rw (eq-eqb i i refl) refl
begins-one i r (s ∷ l) (Memᴰ.tail m) = rw (begins-one i r l m) (or-true (begins_with i s))
  where
    or-true : (x : Bool) → (x || true) ≡ true
    or-true true = refl
    or-true false = refl

module _ (G : Net) (whole : Sound G) where
  first-begins : (at i : ℕ) (met : ℕ → Bool) → begins_one i (all_from G at met) ≡ true → Begins G at met i
  first-begins at i met e = let w = one-begins i (all_from G at met) e in (w.0, (all_are G whole at met (i ∷ w.0)).0 w.1)

  begins-first : (at i : ℕ) (met : ℕ → Bool) → Begins G at met i → begins_one i (all_from G at met) ≡ true
  begins-first at i met (r, p) = begins-one i r (all_from G at met) ((all_are G whole at met (i ∷ r)).1 p)

  -- ---- a walk by first links

  goes-route : {at i : ℕ} {met : ℕ → Bool} {p : List ℕ} → Goes G at met (i ∷ p) → (r : List ℕ) × IsRoute G at met ((i ∷ p) ++ r)
  unfolding first_links
  goes-route {at = at} {i = i} {met = met} {p = []} (stepped m e q) = first-begins at i met (has-where (λ i. begins_one i (all_from G at met)) 0 G.links i m)
  goes-route {at = at} {i = i} {met = met} {p = j ∷ p} (stepped {f = f} m e q) =
      let w = goes-route q in
      (w.0, longer e (first-begins at i met (has-where (λ i. begins_one i (all_from G at met)) 0 G.links i m)).1 w.1)
    where
      longer : {f : ℕ} {r s : List ℕ} → G.far i at ≡ some f → IsRoute G at met (i ∷ r) → IsRoute G f (also f met) s → IsRoute G at met (i ∷ s)
      longer {f = f} e (passed {f = g} ne l e' k p) s =
          let z : g ≡ f = (let h : some g ≡ some f = sym e' ∙ e in cc) in
          passed ne l e (ap met (sym z) ∙ k) s

pub no-step-in-vain : NoStepInVain
no-step-in-vain G whole a i p q = goes-route G whole q

-- ---- what is kept

module _ (ends : List (List ℕ)) (ways : List ℕ) (links to : ℕ) (t : List ℕ) (T : ByNode (net ends ways links to) t) (at gone out kept : ℕ)
    (Q : AtNode (net ends ways links to) at gone out) (L : LooksAhead t gone out kept) where
  abbrev G : Net
  G = net ends ways links to

  H : Holds (net ends ways links to) t
  H = table-holds ends ways links to t T

  -- a link that leads on
  leads-on : (i : ℕ) → has out i ≡ true → (f : ℕ) × (((net_of t).far i at ≡ some f) × (met_of gone f ≡ false))
  unfolding fresh_end
  leads-on i e = go (G.far i at) refl (sym (Q.leads i) ∙ e)
    where
      go : (o : Option ℕ) → G.far i at ≡ o → fresh_end (met_of gone) o ≡ true → (f : ℕ) × (((net_of t).far i at ≡ some f) × (met_of gone f ≡ false))
      go none q k = absurd (both_ways k refl)
      go (some f) q k =
          let m = no-not (met_of gone f) k in
          (f, (far-kept ends ways links to t T i at f q Q.node (λ z. both_ways Q.met (ap (met_of gone) z ∙ m)), m))

  asked : Asked t at gone out
  unfolding net_of
  asked =
      record {
        table = H.walkable;
        node = Q.node;
        met = Q.met;
        other = λ e. Q.other (e ∙ T.goal);
        goal = ap (met_of gone) T.goal ∙ Q.goal;
        opens = leads-on;
      }

  W : Worth (net_of t) at (met_of gone) out kept
  W = L at asked

  there : (i : ℕ) → has kept i ≡ true → Begins G at (met_of gone) i
  there i e = let w = W.begins i e in (w.0, route-there ends ways links to t T w.1)

  back : (i : ℕ) → Begins G at (met_of gone) i → has kept i ≡ true
  unfolding fresh_end
  back i (r, p) = W.all i (Q.leads i ∙ leads p) (r, route-back ends ways links to t T Q.node Q.met p)
    where
      leads : {r : List ℕ} → IsRoute G at (met_of gone) (i ∷ r) → fresh_end (met_of gone) (G.far i at) ≡ true
      leads (passed ne l e m p) = rw (e, m) refl

  keeps-first : places_in kept ≡ first_links (net ends ways links to) at (met_of gone)
  unfolding places_in first_links
  keeps-first =
      where-equal (has kept) (λ i. begins_one i (all_from G at (met_of gone))) 48 links
      (λ i. both-same (has kept i) (begins_one i (all_from G at (met_of gone))) (λ e. begins-first G (sound ends ways links to) at i (met_of gone) (there i e))
      (λ e. back i (first-begins G (sound ends ways links to) at i (met_of gone) e)))
      (λ i l. no_true (λ e. (let w = leads-on i (W.among i e) in let k = (H.walkable.leads i at w.0 w.1.0).kept.place in absurd (omega arith))))
      (λ i l. no_true (λ e. below l (first-begins G (sound ends ways links to) at i (met_of gone) e).1))
    where
      below : {i : ℕ} {r : List ℕ} → links ≤ i → IsRoute G at (met_of gone) (i ∷ r) → ⊥
      below l (passed ne h e m p) = absurd (omega arith)

pub keeps-first-links : KeepsFirstLinks
keeps-first-links ends ways links to t T at gone out kept Q L = keeps-first ends ways links to t T at gone out kept Q L
