-- How `run` passes a message on: what is left to do decides for all. The nodes so far are the first of the whole way, and what the steps that are left come to
-- is the rest of it.
use Prim.Native.Nat.{ℕ, suc, ◌+◌, ◌-◌, ◌<◌, ◌≤◌}
use mathlib.Core.Path.{◌≡◌, refl, sym, ap, ap₂, ◌∙◌, subst}
use mathlib.Core.Bool.{Bool, true, false, cond, ◌&&◌, ◌||◌}
use mathlib.Core.List.{List, [], ◌∷◌, ◌++◌}
use native.Mathlib.Numerals.{add-one}
use native.Mathlib.Omega.{arith}
use lib.Dec.{eqb, ltb}
use lib.ListN.{length, get_or, set, drop, replicate, length-drop}
use lib.Seq.{drop-cons}
use borrow.Author.Tests.{eqb-true, eqb-false, ltb-true, ltb-false}
use Rattle.lists.specs.Places.{firsts, row}
use Rattle.lists.proofs.Bools.{and_left, and_right, both_ways}
use Rattle.lists.proofs.Places.{row_next}
use Rattle.address.specs.declared.Address.{Address}
use Rattle.table.specs.declared.Table.{Table}
use Rattle.chart.specs.declared.Chart.{Chart}
use Rattle.chart_refuse.specs.Promises.{Accepted}
use Rattle.class.specs.declared.Message.{Message}
use Rattle.class.specs.Calls.{Passed}
use Rattle.class.specs.Class.{begun_at, ended_with, step_on, steps_on, new_place, places_on, way_from, ending_from}
use Rattle.class.specs.Private.{passed_from}
use Rattle.class.proofs.Ports.{comes-in}
use Rattle.class.proofs.Steps.{Stepped, halted, again, further, stepped, steps-ended, places-ended, steps-more, places-more}

-- the nodes of a way, 0 past them
abbrev nodes_of : List ℕ → ℕ → ℕ
nodes_of l i = get_or l i 0

-- a list of which the rest begins with x is longer, x stands there, and what follows is the rest after it
record Next (l : List ℕ) (k x : ℕ) (more : List ℕ) : Type 0 where
  longer : k < length l
  there : get_or l k 0 ≡ x
  after : drop (suc k) l ≡ more

next : (l : List ℕ) (k x : ℕ) (more : List ℕ) → k ≤ length l → drop k l ≡ x ∷ more → Next l k x more
next l k x more h e =
    let n : length l - k ≡ suc (length more) = sym (length-drop k l) ∙ ap length e in
    let longer : k < length l = omega arith in
    let both = sym (drop-cons l k 0 longer) ∙ e in
    record { longer = longer; there = ap (λ (r : List ℕ). get_or r 0 0) both; after = ap (drop 1) both }

module _ (c : Chart) (ts : ℕ → Table) (d : Address) (a : ℕ) where
  -- the message m, with so many steps left, the first so many nodes of its way in the 17 places
  pub record Halfway (m : Message) (way : List ℕ) (count left : ℕ) : Type 0 where
    pub here : m.at < c.nodes.count
    pub room : count + left ≤ 17
    pub ending : (steps_on c ts d left m).ending ≡ ending_from c ts d a
    pub ahead : drop count (way_from c ts d a) ≡ places_on c ts d left m
    pub within : count ≤ length (way_from c ts d a)
    pub nodes : way ≡ row 17 0 (nodes_of (way_from c ts d a)) count

  -- it begins
  pub goes_first : a < c.nodes.count → c.nodes.count ≤ 16 → {m : Message} → m ≡ begun_at a
      → Halfway m (set (replicate 17 0) 0 a) 1 c.nodes.count
  unfolding begun_at way_from ending_from row firsts
  goes_first h few e =
      subst (λ (m : Message). Halfway m (set (replicate 17 0) 0 a) 1 c.nodes.count) (sym e)
      (record {
        here = h;
        room = omega arith;
        ending = refl;
        ahead = refl;
        within = omega arith;
        nodes = refl;
      })

  module _ (ok : Accepted c) (m : Message) (way : List ℕ) (count left : ℕ) (g : Halfway m way count left) where
    -- a step stays in the chart
    step-here : m.ending ≡ 0 → (step_on c ts d m).at < c.nodes.count
    unfolding ended_with
    step-here u = go (stepped c ts d m u)
      where
        at-is : (x : Message) → step_on c ts d m ≡ x → x.at < c.nodes.count → (step_on c ts d m).at < c.nodes.count
        at-is x e h = subst (λ (y : Message). y.at < c.nodes.count) (sym e) h

        go : Stepped c ts d m → (step_on c ts d m).at < c.nodes.count
        go (halted k l h e) = at-is _ e g.here
        go (again x w h e) = at-is _ e (comes-in c ok m.at w.by x w.out).0
        go (further x w h e) = at-is _ e (comes-in c ok m.at w.by x w.out).0

    -- the loop's test
    pub goes : (eqb m.ending 0 && ltb 0 left) ≡ true → (m.ending ≡ 0) × (0 < left)
    goes t = (eqb-true m.ending 0 (and_left _ _ t), ltb-true 0 left (and_right (eqb m.ending 0) _ t))

    module _ (t : (eqb m.ending 0 && ltb 0 left) ≡ true) (m' : Message) (e : m' ≡ step_on c ts d m) where
      more : left ≡ suc (left - 1)
      more = let h = (goes t).1 in omega arith

      rest : places_on c ts d left m ≡ new_place c ts d m' ++ places_on c ts d (left - 1) m'
      rest = ap (λ (n : ℕ). places_on c ts d n m) more ∙ places-more c ts d (left - 1) m m' (goes t).0 (sym e)

      ends : (steps_on c ts d (left - 1) m').ending ≡ ending_from c ts d a
      ends = sym (ap (λ (n : ℕ). (steps_on c ts d n m).ending) more ∙ ap (λ (x : Message). x.ending) (steps-more c ts d (left - 1) m m' (sym e))) ∙ g.ending

      at' : m'.at < c.nodes.count
      at' = subst (λ (x : Message). x.at < c.nodes.count) (sym e) (step-here (goes t).0)

      module _ (way' : List ℕ) (count' : ℕ) where
        -- a step over a link, whose node comes next, and one that ends the message where it is
        pub goes_over : (eqb m'.ending 0 || eqb m'.ending 4) ≡ true → way' ≡ set way count m'.at → count' ≡ count + 1
            → Halfway m' way' count' (left - 1)
        unfolding new_place
        goes_over n p q =
            let W = way_from c ts d a in
            let r = places_on c ts d (left - 1) m' in
            let x = next W count m'.at r g.within (g.ahead ∙ rest ∙ ap (λ (b : Bool). cond b (m'.at ∷ []) [] ++ r) n) in
            record {
              here = at';
              room = omega (arith, g.room, (goes t).1);
              ending = ends;
              ahead = ap (λ (k : ℕ). drop k W) (q ∙ add-one count) ∙ x.after;
              within = omega (arith, x.longer);
              nodes = p
                  ∙ ap₂ (λ (l : List ℕ) (y : ℕ). set l count y) g.nodes (sym x.there)
                  ∙ row_next 17 0 (nodes_of W) count (omega (arith, g.room, (goes t).1))
                  ∙ ap (row 17 0 (nodes_of W)) (sym q);
            }

        pub goes-nowhere : (eqb m'.ending 0 || eqb m'.ending 4) ≡ false → way' ≡ way → count' ≡ count → Halfway m' way' count' (left - 1)
        unfolding new_place
        goes-nowhere n p q =
            let W = way_from c ts d a in
            record {
              here = at';
              room = omega (arith, g.room);
              ending = ends;
              ahead = ap (λ (k : ℕ). drop k W) q ∙ g.ahead ∙ rest ∙ ap (λ (b : Bool). cond b (m'.at ∷ []) [] ++ places_on c ts d (left - 1) m') n;
              within = omega (arith, g.within);
              nodes = p ∙ g.nodes ∙ ap (row 17 0 (nodes_of W)) (sym q);
            }

    -- nothing is left to do
    nothing : (eqb m.ending 0 && ltb 0 left) ≡ false → (places_on c ts d left m ≡ []) × (steps_on c ts d left m ≡ m)
    unfolding places_on steps_on
    nothing t = go (eqb m.ending 0) refl (ltb 0 left) refl t
      where
        none_left : left ≡ 0 → (places_on c ts d left m ≡ []) × (steps_on c ts d left m ≡ m)
        none_left z = (ap (λ (n : ℕ). places_on c ts d n m) z, ap (λ (n : ℕ). steps_on c ts d n m) z)

        go : (under : Bool) → eqb m.ending 0 ≡ under → (some : Bool) → ltb 0 left ≡ some → (under && some) ≡ false
            → (places_on c ts d left m ≡ []) × (steps_on c ts d left m ≡ m)
        go false u some l h = (places-ended c ts d left m (eqb-false m.ending 0 u), steps-ended c ts d left m (eqb-false m.ending 0 u))
        go true u false l h = none_left (let z = ltb-false 0 left l in omega arith)
        go true u true l h = absurd (both_ways refl h)

    pub gone : (eqb m.ending 0 && ltb 0 left) ≡ false
        → ◌≡◌ {A = Passed} (record { refusal = 0; place = 0; ending = m.ending; count = count; way = way }) (passed_from c ts d a)
    unfolding passed_from
    gone t =
        let W = way_from c ts d a in
        let z = nothing t in
        let short : length W - count ≡ 0 = sym (length-drop count W) ∙ ap length (g.ahead ∙ z.0) in
        let all : count ≡ length W = omega (arith, g.within) in
        let end : m.ending ≡ ending_from c ts d a = sym (ap (λ (x : Message). x.ending) z.1) ∙ g.ending in
        let whole : way ≡ row 17 0 (nodes_of W) (length W) = g.nodes ∙ ap (row 17 0 (nodes_of W)) all in
        λ j. record { refusal = 0; place = 0; ending = end j; count = all j; way = whole j }
