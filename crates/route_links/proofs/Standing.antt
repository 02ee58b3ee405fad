-- On from a node: what is gone once it is met, and the links that lead on.
use mathlib.Core.Path.{◌≡◌, refl, sym, ◌∙◌, ap, subst, fun_ext}
use mathlib.Core.Logic.{◌⊎◌, inl, inr}
use mathlib.Core.Bool.{Bool, true, false, not, ◌&&◌, ◌||◌, cond}
use mathlib.Core.Option.{some}
use mathlib.Core.List.{List, [], ◌∷◌}
use Prim.Native.Nat.{ℕ, zero, suc, ◌+◌, ◌^◌, ◌<◌, ◌≤◌}
use native.Mathlib.Omega.{arith}
use borrow.Author.Tests.{eqb-true, eqb-false, eq-eqb, ne_eqb}
use lib.Bits.{bit_or}
use lib.Dec.{eqb}
use lib.ListN.{get_or}
use Rattle.lists.proofs.Bools.{and_left, and_right, or-none, or-no-right, no-not, no_true, both_ways}
use Rattle.route.specs.Route.{also, only, IsRoute, passed}
use Rattle.route.specs.All.{tries, links_from, all_from, all_routes, unmet}
use Rattle.route.proofs.Tests.{either}
use Rattle.route.proofs.Laws.{also-self, also-other, unmet-also, all_here, all-on, from_links}
use Rattle.route_links.specs.Sets.{has, places_in}
use Rattle.route_links.specs.Private.{alone, net_of, Leads, Walkable, met_of, Gone, Covers, gone_after, links_on, routes_on, routes_by, Standing, Choosing}
use Rattle.route_links.proofs.Digits.{has-or, has-without, has-alone, has-none, has-past, without-small}
use Rattle.route_links.proofs.Table.{table-sound}
use Rattle.route_links.proofs.Cover.{covered}

or_swap : (x y : Bool) → (x || y) ≡ (y || x)
or_swap true true = refl
or_swap true false = refl
or_swap false true = refl
or_swap false false = refl

module _ (t : List ℕ) (f gone d : ℕ) (S : Standing t f gone d) where
  abbrev then : ℕ
  then = gone_after t gone f

  -- the node f is met too
  pub met-after : met_of (gone_after t gone f) ≡ also f (met_of gone)
  unfolding met_of also
  met-after = fun_ext (λ n. has-or (bit_or gone (get_or t f 0)) (alone (48 + f)) (48 + n)
      ∙ ap (λ b. b || has (alone (48 + f)) (48 + n)) (kept n)
      ∙ ap (λ b. has gone (48 + n) || b) (has-alone (48 + f) (48 + n) (let l = S.node in omega arith) ∙ shifted n)
      ∙ or_swap (has gone (48 + n)) (eqb n f))
    where
      kept : (n : ℕ) → has (bit_or gone (get_or t f 0)) (48 + n) ≡ has gone (48 + n)
      kept n =
          let l = S.node in
          has-or gone (get_or t f 0) (48 + n)
          ∙ ap (λ b. has gone (48 + n) || b) (has-past 48 (get_or t f 0) (48 + n) (S.table.small f (omega arith)) (omega arith))
          ∙ or-none (has gone (48 + n))

      shifted : (n : ℕ) → eqb (48 + n) (48 + f) ≡ eqb n f
      shifted n = go (either (eqb n f))
        where
          go : (eqb n f ≡ true) ⊎ (eqb n f ≡ false) → eqb (48 + n) (48 + f) ≡ eqb n f
          go (inl e) = let p = eqb-true n f e in rw (p, eq-eqb f f refl, eq-eqb (48 + f) (48 + f) refl) refl
          go (inr e) = let p = eqb-false n f e in rw (e, ne_eqb (48 + n) (48 + f) (λ q. p (omega arith))) refl

  met_at : (n : ℕ) → met_of then n ≡ also f (met_of gone) n
  met_at n = ap (λ m. m n) met-after

  pub fewer : suc (unmet 16 (met_of (gone_after t gone f))) ≡ unmet 16 (met_of gone)
  fewer = ap (λ m. suc (unmet 16 m)) met-after ∙ sym (unmet-also 16 (met_of gone) f S.node S.fresh)

  -- a node not met after f is another, and was not met before
  fresh-after : (n : ℕ) → met_of then n ≡ false → (n ≡ f → ⊥) × (met_of gone n ≡ false)
  unfolding also
  fresh-after n e = (
    λ q. both_ways (also-self f (met_of gone)) (subst (λ (z : ℕ). also f (met_of gone) z ≡ false) q (sym (met_at n) ∙ e)),
    or-no-right (eqb n f) (met_of gone n) (sym (met_at n) ∙ e),
  )

  -- the links that lead on from f to nodes that are not met
  pub opened : Covers (net_of t) (links_on t gone f) f (met_of (gone_after t gone f)) 0
  unfolding Gone
  opened = record { above = λ i e. omega arith; opens = opens; keeps = λ i r l p. keeps i r p }
    where
      opens : (i : ℕ) → has (links_on t gone f) i ≡ true → (g : ℕ) × (((net_of t).far i f ≡ some g) × (met_of then g ≡ false))
      opens i e =
          let b : (has (get_or t (16 + f) 0) i && not (has gone i)) ≡ true = sym (has-without (get_or t (16 + f) 0) gone i) ∙ e in
          let w = S.table.outs i f S.node (and_left (has (get_or t (16 + f) 0) i) (not (has gone i)) b) in
          let m : met_of gone w.0 ≡ false = sym (S.known i f w.0 w.1 S.fresh) ∙ no-not (has gone i) (and_right (has (get_or t (16 + f) 0) i) (not (has gone i)) b) in
          (w.0, (w.1, met_at w.0 ∙ also-other f (met_of gone) w.0 (λ q. (S.table.leads i f w.0 w.1).apart (sym q)) ∙ m))

      keeps : (i : ℕ) (r : List ℕ) → IsRoute (net_of t) f (met_of then) (i ∷ r) → has (links_on t gone f) i ≡ true
      keeps i r (passed {f = g} ne l q m p) =
          has-without (get_or t (16 + f) 0) gone i ∙ rw ((S.table.leads i f g q).kept.from, S.known i f g q S.fresh, (fresh-after g m).1) refl

  -- what is gone is known after f too
  pub gone-known : Gone (net_of t) (gone_after t gone f)
  unfolding Gone also
  gone-known i a g q m = parts ∙ ap (λ b. met_of gone g || b) into ∙ or_swap (met_of gone g) (eqb g f) ∙ spelled ∙ sym (met_at g)
    where
      l : Leads t i a g
      l = S.table.leads i a g q

      into : has (get_or t f 0) i ≡ eqb g f
      into = go (either (eqb g f))
        where
          go : (eqb g f ≡ true) ⊎ (eqb g f ≡ false) → has (get_or t f 0) i ≡ eqb g f
          go (inl e) = subst (λ (z : ℕ). has (get_or t z 0) i ≡ true) (eqb-true g f e) l.kept.to ∙ sym e
          go (inr e) = no_true (λ h. let w = S.table.ins i f S.node h in which (S.table.ends i a g w.0 f q w.1)) ∙ sym e
            where
              which : (f ≡ a) ⊎ (f ≡ g) → ⊥
              which (inl z) = (fresh-after a m).0 (sym z)
              which (inr z) = eqb-false g f e (sym z)

      parts : has then i ≡ (met_of gone g || has (get_or t f 0) i)
      parts =
          let p : i < 48 = l.kept.place in
          let n = S.node in
          let z : eqb i (48 + f) ≡ false = ne_eqb i (48 + f) (λ e. absurd (omega arith)) in
          has-or (bit_or gone (get_or t f 0)) (alone (48 + f)) i
          ∙ ap (λ b. has (bit_or gone (get_or t f 0)) i || b) (has-alone (48 + f) i (omega arith) ∙ z)
          ∙ or-none (has (bit_or gone (get_or t f 0)) i)
          ∙ has-or gone (get_or t f 0) i
          ∙ ap (λ b. b || has (get_or t f 0) i) (S.known i a g q (fresh-after a m).1)

      spelled : (eqb g f || met_of gone g) ≡ also f (met_of gone) g
      spelled = refl

  -- any set that covers the routes from f by a link at place j or later
  pub record Left (links j : ℕ) : Type 0 where
    pub chooses : Choosing t f (gone_after t gone f) links d
    pub says : ¬ (f ≡ get_or t 80 0)
        → tries (net_of t) (λ g. routes_on t g (gone_after t gone f)) f (met_of (gone_after t gone f)) (links_from (net_of t) j) ≡ routes_by t f (gone_after t gone f) links

  pub left : (links j : ℕ) → j ≤ 48 → Covers (net_of t) links f (met_of (gone_after t gone f)) j
      → ((i : ℕ) → has links i ≡ true → (r : List ℕ) × IsRoute (net_of t) f (met_of (gone_after t gone f)) (i ∷ r)) → links < 2 ^ 48 → Left links j
  unfolding net_of places_in routes_on routes_by
  left links j h C begins l =
      let F = fewer in
      let D = S.depth in
      record {
        chooses = record { table = S.table; node = S.node; known = gone-known; begins = begins; depth = omega arith; small = l };
        says = λ ne. covered (net_of t) (table-sound t S.table) links f (met_of then) j ne C h;
      }

  pub links-small : links_on t gone f < 2 ^ 48
  links-small = let l = S.node in without-small 48 (get_or t (16 + f) 0) gone (S.table.small (16 + f) (omega arith))

  -- any that covers all routes from f
  pub record Going (links : ℕ) : Type 0 where
    pub chooses : Choosing t f (gone_after t gone f) links d
    pub says : ¬ (f ≡ get_or t 80 0) → routes_on t f gone ≡ routes_by t f (gone_after t gone f) links

  pub going-by : (links : ℕ) → Covers (net_of t) links f (met_of (gone_after t gone f)) 0
      → ((i : ℕ) → has links i ≡ true → (r : List ℕ) × IsRoute (net_of t) f (met_of (gone_after t gone f)) (i ∷ r)) → links < 2 ^ 48 → Going links
  unfolding net_of routes_on from_links
  going-by links C begins l =
      let L = left links 0 (omega arith) C begins l in
      record {
        chooses = L.chooses;
        says = λ ne. ap (λ m. all_from (net_of t) f m) (sym met-after) ∙ all-on (net_of t) f (met_of then) (table-sound t S.table) ne ∙ L.says ne;
      }

  pub standing-room : d ≤ 15
  standing-room = let e = fewer in let k = S.depth in omega arith

-- ---- at the goal, and at the start

pub routes-here : (t : List ℕ) (f gone : ℕ) → f ≡ get_or t 80 0 → routes_on t f gone ≡ [] ∷ []
unfolding routes_on net_of
routes-here t f gone e = all_here (net_of t) f (also f (met_of gone)) e

pub unmet-most : (n : ℕ) (met : ℕ → Bool) → unmet n met ≤ n
unfolding unmet
unmet-most zero met = omega arith
unmet-most (suc n) met = go (met n) (unmet-most n met)
  where
    go : (b : Bool) → unmet n met ≤ n → cond b (unmet n met) (suc (unmet n met)) ≤ suc n
    go true h = omega arith
    go false h = omega arith

pub start-standing : (t : List ℕ) (from : ℕ) → Walkable t → from < 16 → Standing t from 0 0
unfolding met_of Gone
start-standing t from T h =
    let k = unmet-most 16 (met_of 0) in
    record { table = T; node = h; fresh = has-none (48 + from); goal = has-none (48 + (net_of t).goal); known = λ i a f q m. has-none i ∙ sym (has-none (48 + f)); depth = omega arith }

pub start-routes : (t : List ℕ) (from : ℕ) → routes_on t from 0 ≡ all_routes (net_of t) from
unfolding routes_on all_routes only met_of
start-routes t from = ap (λ m. all_from (net_of t) from (also from m)) (fun_ext (λ n. has-none (48 + n)))
