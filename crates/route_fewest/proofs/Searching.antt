-- The search backwards over a table, in words.
use mathlib.Core.Path.{◌≡◌, sym, ◌∙◌, ap, subst, fun_ext}
use mathlib.Core.Logic.{◌⊎◌, inl, inr}
use mathlib.Core.Bool.{Bool, true, false, not, ◌||◌, ◌&&◌}
use mathlib.Core.Option.{some}
use mathlib.Core.List.{List}
use Prim.Native.Nat.{ℕ, suc, ◌+◌, ◌-◌, ◌^◌, ◌<◌}
use native.Mathlib.Omega.{arith}
use mir.Syntax.{w8}
use mir.Val.{Fits}
use lib.Bits.{bit_and, bit_or, bit_xor, and_le_l}
use lib.Count.{count_trailing_zeros, trailing_le}
use lib.Dec.{eqb}
use lib.ListN.{get_or}
use Rattle.lists.proofs.Bools.{and_left, and_right, and_both}
use Rattle.lists.proofs.Places.{FirstAt, any_found, any-nowhere, first_found, first-stop}
use Rattle.route.specs.Route.{Sound}
use Rattle.route_links.specs.Sets.{has}
use Rattle.route_links.specs.Private.{net_of, Walkable}
use Rattle.route_links.proofs.Digits.{has-or, has-and, has-without, has-alone, has-none, digit-below, lowest-under, lowest-is}
use Rattle.route_ahead.proofs.Looking.{node, node-is, positive}
use Rattle.route_fewest.specs.declared.Spread.{Spread}
use Rattle.route_fewest.specs.Fewest.{first_link, leads_to, some_leads, near}
use Rattle.route_fewest.specs.Private.{hop, toward, link_place, SpreadOf}
use Rattle.route_fewest.proofs.Hops.{first-is-hop, first-here}
use Rattle.route_fewest.proofs.Rounds.{Round, round-starts, round-found, round-ends, Enters, Into, OutOf, nearer-is, round-on}

-- the lowest place of a word is a byte
pub place-fits : (w : ℕ) → Fits w8 (count_trailing_zeros 64 w)
place-fits w = let h = trailing_le 64 w in record { fits = omega arith }

-- after some rounds, with so many left
abbrev pub Searched : List ℕ → ℕ → ℕ → ℕ → ℕ → ℕ → Type 0
Searched t from to front seen left = (k : ℕ) × Round (toward t to) from k left (has front) (has seen)

pub search-starts : (t : List ℕ) (from to : ℕ) → to < 16 → ¬ (from ≡ to) → Searched t from to (node to) (node to) 16
search-starts t from to h ne = (0, subst (λ p. Round (toward t to) from 0 16 p p) (fun_ext front-is) (round-starts (toward t to) from ne))
  where
    front-is : (n : ℕ) → eqb n to ≡ has (node to) n
    front-is n = sym (ap (λ (w : ℕ). has w n) (node-is to h) ∙ has-alone to n (omega arith))

-- the node itself has no first link
pub search-here : (t : List ℕ) (from to : ℕ) → from ≡ to → 48 ≡ link_place (first_link (toward t to) from)
unfolding link_place
search-here t from to e = sym (ap link_place (first-here (toward t to) from e))

module _ (t : List ℕ) (T : Walkable t) (to : ℕ) where
  sound : Sound (toward t to)
  sound i a f e = (T.leads i a f e).kept.far

  out_of : (from : ℕ) → from < 16 → OutOf (toward t to) from (has (get_or t (16 + from) 0))
  out_of from h = record { outs = λ i e. T.outs i from h e; outs-all = λ i f q. (T.leads i from f q).kept.from }

  -- what is gathered for the nodes of `front` are the links into it, and the nodes from which they lead
  module _ (front : ℕ) (s : Spread) (S : SpreadOf t front s) where
    abbrev links-of : ℕ → ℕ → Bool
    links-of i n = has front n && has (get_or t n 0) i

    abbrev nodes-of : ℕ → ℕ → Bool
    nodes-of a n = has front n && has (get_or t (81 + n) 0) a

    enters : (i a n : ℕ) → (net_of t).far i a ≡ some n → has front n ≡ true → Enters (toward t to) (has front) i a
    enters i a n q e = let k = (T.leads i a n q).kept in record { to = n; there = k.place; far = q; node = k.far; is = e }

    linked : (i n : ℕ) → n < 16 → links-of i n ≡ true → (a : ℕ) × Enters (toward t to) (has front) i a
    linked i n l e =
        let w = T.ins i n l (and_right (has front n) (has (get_or t n 0) i) e) in
        (w.0, enters i w.0 n w.1 (and_left (has front n) (has (get_or t n 0) i) e))

    joined : (a n : ℕ) → n < 16 → nodes-of a n ≡ true → (i : ℕ) × Enters (toward t to) (has front) i a
    joined a n l e =
        let w = T.froms a n l (and_right (has front n) (has (get_or t (81 + n) 0) a) e) in
        (w.0, enters w.0 a n w.1 (and_left (has front n) (has (get_or t (81 + n) 0) a) e))

    into : Into (toward t to) (has front) (has s.links) (has s.nodes)
    into =
        record {
          linked = λ i e. (let w = first_found (links-of i) 16 (sym (S.links i) ∙ e) in linked i _ w.below w.passes);
          links-all = λ i a x. S.links i ∙ any_found (links-of i) 16 x.to x.node (and_both x.is (T.leads i a x.to x.far).kept.to);
          joined = λ a l e. (let w = first_found (nodes-of a) 16 (sym (S.nodes a l) ∙ e) in joined a _ w.below w.passes);
          nodes-all = λ i a l x. S.nodes a l ∙ any_found (nodes-of a) 16 x.to x.node (and_both x.is (T.leads i a x.to x.far).kept.beside);
        }

  -- what is found is the first link
  first_of : (from : ℕ) → from < 16 → ¬ (from ≡ to) → hop (toward t to) from ≡ first_link (toward t to) from
  first_of from h ne = sym (first-is-hop (toward t to) sound from h ne)

  module _ (from : ℕ) (place : from < 16) (ne : ¬ (from ≡ to)) (front seen left : ℕ) where
    pub search-ends : Searched t from to front seen left → (front ≡ 0) ⊎ (left ≡ 0) → 48 ≡ link_place (first_link (toward t to) from)
    unfolding link_place
    search-ends R z = sym (ap link_place (sym (first_of from place ne) ∙ round-ends (toward t to) from R.0 left (has front) (has seen) R.1 (over z)))
      where
        over : (front ≡ 0) ⊎ (left ≡ 0) → ((n : ℕ) → has front n ≡ false) ⊎ (left ≡ 0)
        over (inl e) = inl (λ n. ap (λ (w : ℕ). has w n) e ∙ has-none n)
        over (inr e) = inr e

    module _ (R : Searched t from to front seen left) (more : 0 < left) (s : Spread) (S : SpreadOf t front s) where
      abbrev k : ℕ
      k = R.0

      abbrev nearer : ℕ
      nearer = bit_and (get_or t (16 + from) 0) s.links

      abbrev leads : ℕ → Bool
      leads = leads_to (toward t to) (near (toward t to) R.0) from

      round : Round (toward t to) from R.0 (suc (left - 1)) (has front) (has seen)
      round = let e : left ≡ suc (left - 1) = omega arith in subst (λ (n : ℕ). Round (toward t to) from R.0 n (has front) (has seen)) e R.1

      leads-are : (i : ℕ) → has nearer i ≡ leads i
      leads-are i =
          has-and (get_or t (16 + from) 0) s.links i
          ∙ nearer-is (toward t to) sound from k (left - 1) (has front) (has seen) (has s.links) (has s.nodes) (into front s S) round
          (has (get_or t (16 + from) 0)) (out_of from place) (λ i a f q. (T.leads i a f q).kept.place) (λ i a f b g. T.ends i a f b g) i

      -- the lowest link from the node into what is seen is the first
      pub search-found : ¬ (bit_and (get_or t (16 + from) 0) s.links ≡ 0)
          → count_trailing_zeros 64 (bit_and (get_or t (16 + from) 0) s.links) ≡ link_place (first_link (toward t to) from)
      unfolding some_leads link_place
      search-found some-nearer =
          let found = round-found (toward t to) from k (left - 1) (has front) (has seen) round (any_found leads 48 low below first.passes) in
          sym (first-stop leads 48 low first) ∙ ap link_place (sym found ∙ first_of from place ne)
        where
          low : ℕ
          low = count_trailing_zeros 64 nearer

          small : nearer < 2 ^ 48
          small = let h = and_le_l (get_or t (16 + from) 0) s.links in let b = T.small (16 + from) (omega arith) in omega arith

          is : has nearer low ≡ true
          is = lowest-is 64 nearer (positive nearer some-nearer) (let h = small in omega arith)

          below : low < 48
          below = digit-below 48 nearer low small is

          first : FirstAt leads 48 low
          first =
              record {
                below = below;
                passes = sym (leads-are low) ∙ is;
                none_before = any-nowhere leads low (λ j l. sym (leads-are j) ∙ lowest-under 64 nearer j l);
              }

      -- there is none: one round more
      pub search-on : bit_and (get_or t (16 + from) 0) s.links ≡ 0
          → Searched t from to (bit_xor s.nodes (bit_and s.nodes seen)) (bit_or seen (bit_xor s.nodes (bit_and s.nodes seen))) (left - 1)
      unfolding some_leads
      search-on z = (
        suc k,
        subst (λ p. Round (toward t to) from (suc k) (left - 1) p (has (bit_or seen new))) (fun_ext (λ n. sym (has-without s.nodes seen n)))
            (subst (λ p. Round (toward t to) from (suc k) (left - 1) (λ n. has s.nodes n && not (has seen n)) p) (fun_ext seen-is)
            (round-on (toward t to) sound from k (left - 1) (has front) (has seen) (has s.links) (has s.nodes) (into front s S) round
            (any-nowhere leads 48 (λ i l. sym (leads-are i) ∙ ap (λ (w : ℕ). has w i) z ∙ has-none i)))),
      )
        where
          new : ℕ
          new = bit_xor s.nodes (bit_and s.nodes seen)

          seen-is : (n : ℕ) → (has seen n || (has s.nodes n && not (has seen n))) ≡ has (bit_or seen (bit_xor s.nodes (bit_and s.nodes seen))) n
          seen-is n = sym (has-or seen new n ∙ ap (λ x. has seen n || x) (has-without s.nodes seen n))
