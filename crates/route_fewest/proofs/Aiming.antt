-- The table of a net has its routes whichever node is asked for, as only one of its words tells that node; and the first links to each node.
use mathlib.Core.Path.{◌≡◌, refl, sym, ◌∙◌, ap, subst}
use mathlib.Core.Bool.{true}
use mathlib.Core.Option.{some}
use mathlib.Core.List.{List, ◌++◌}
use Prim.Native.Nat.{ℕ, zero, suc, ◌+◌, ◌-◌, ◌<◌, ◌≤◌, min}
use native.Mathlib.Omega.{arith}
use native.Mathlib.Numerals.{add-one}
use borrow.Author.Tests.{eqb-false, lt-ltb, le-ltb}
use lib.Dec.{eqb}
use lib.ListN.{get_or, set, length-set, replicate, replicate-append-replicate}
use lib.Seq.{get_or-set_same, get_or-set_other}
use Rattle.lists.specs.Places.{firsts, row}
use Rattle.lists.proofs.Bools.{no-not}
use Rattle.lists.proofs.Places.{row-none, row_next, row-agree}
use Rattle.route.specs.Route.{Sound}
use Rattle.route.proofs.SameNet.{Alike, routes-agree}
use Rattle.route_links.specs.Arrays.{net}
use Rattle.route_links.specs.Sets.{SetOf}
use Rattle.route_links.specs.ByNode.{other_than, leads_out, leads_into, links_out, links_into, joins, nodes_into, ByNode}
use Rattle.route_links.specs.Private.{net_of, Holds}
use Rattle.route_links.proofs.Table.{table-holds, table-sound, far-kept}
use Rattle.route_fewest.specs.Fewest.{fewest_of, head_of, fewest_from, first_link}
use Rattle.route_fewest.specs.Private.{toward, link_place, first_link_over, first_links_over}

module _ (ends : List (List ℕ)) (ways : List ℕ) (links : ℕ) (t : List ℕ) (T : ByNode (net ends ways links 0) t) where
  -- all but the goal's place is as it was
  as_was : (to n : ℕ) → (n ≡ 80 → ⊥) → get_or t n 0 ≡ get_or (set t 80 to) n 0
  as_was to n ne = sym (get_or-set_other t 80 n to 0 ne)

  H : Holds (net ends ways links 0) t
  H = table-holds ends ways links 0 t T

  -- a link that leads to another node is one of the first 48
  place : (i a f : ℕ) → a < 16 → (net ends ways links 0).far i a ≡ some f → leads_out (net ends ways links 0) a i ≡ true → i < 48
  unfolding leads_out
  place i a f l q e = (H.walkable.leads i a f (far-kept ends ways links 0 t T i a f q l apart)).kept.place
    where
      apart : a ≡ f → ⊥
      apart z = eqb-false f a (no-not (eqb f a) (sym (ap (other_than a) q) ∙ e)) (sym z)

  -- the table for another goal
  aimed : (to : ℕ) → ByNode (net ends ways links to) (set t 80 to)
  unfolding leads_out leads_into links_out links_into joins nodes_into
  aimed to =
      record {
        size = length-set t 80 to ∙ T.size;
        into = λ f l. subst (λ (w : ℕ). SetOf (links_into (net ends ways links 0) f) w) (as_was to f (λ e. omega arith)) (T.into f l);
        out = λ a l. subst (λ (w : ℕ). SetOf (links_out (net ends ways links 0) a) w) (as_was to (16 + a) (λ e. omega arith)) (T.out a l);
        sum = λ i a f l q e. sym (as_was to (32 + i) (λ z. absurd (let h = place i a f l q e in omega arith))) ∙ T.sum i a f l q e;
        unused = λ i h l. sym (as_was to (32 + i) (λ e. omega arith)) ∙ T.unused i h l;
        goal = get_or-set_same t 80 to 0 (let s = T.size in omega arith);
        from = λ f l. subst (λ (w : ℕ). SetOf (nodes_into (net ends ways links 0) f) w) (as_was to (81 + f) (λ e. omega arith)) (T.from f l);
      }

  sound : (to : ℕ) → Sound (toward t to)
  sound to i a f e = (H.walkable.leads i a f e).kept.far

  -- the words that tell where a link leads are the same
  alike : (to : ℕ) → Alike (toward t to) (net_of (set t 80 to))
  unfolding net_of
  alike to =
      record {
        links = refl;
        goal = sym (aimed to).goal;
        far = λ i a l h. rw (as_was to (16 + a) (λ e. omega arith), as_was to (32 + i) (λ e. omega arith)) refl;
      }

  pub first-same : (to a : ℕ) → a < 16 → first_link (toward t to) a ≡ first_link (net ends ways links to) a
  unfolding first_link fewest_from
  first-same to a h =
      let K = table-holds ends ways links to (set t 80 to) (aimed to) in
      ap (λ l. head_of (fewest_of l))
      (routes-agree (toward t to) (net_of (set t 80 to)) (alike to) (sound to) (table-sound (set t 80 to) K.walkable) a h ∙ K.same a h)

-- ---- the first links to each node

-- the first link to a node, by the table
unfoldable pub reached : List ℕ → ℕ → ℕ → ℕ
reached t from to = link_place (first_link (toward t to) from)

-- a row of what stands at its unused places
firsts_same : {A : Type 0} (z : A) (n : ℕ) → firsts (λ i. z) n ≡ replicate n z
unfolding firsts
firsts_same z zero = refl
firsts_same z (suc n) = ap (λ l. l ++ replicate 1 z) (firsts_same z n) ∙ replicate-append-replicate n 1 z ∙ ap (λ (k : ℕ). replicate k z) (add-one n)

row_same : {A : Type 0} (z : A) (m n : ℕ) → n ≤ m → row m z (λ i. z) n ≡ replicate m z
unfolding row
row_same z m n h =
    let k : n + (m - n) ≡ m = omega arith in
    ap (λ l. l ++ replicate (m - n) z) (firsts_same z n) ∙ replicate-append-replicate n (m - n) z ∙ ap (λ (j : ℕ). replicate j z) k

pub first-links-none : (ends : List (List ℕ)) (ways : List ℕ) (links nodes from : ℕ) → 16 ≤ from → replicate 16 48 ≡ first_links_over ends ways links nodes from
unfolding first_links_over first_link_over link_place
first-links-none ends ways links nodes from h =
    sym (row-agree 16 48 (λ to. link_place (first_link_over ends ways links from to)) (λ to. 48) (min nodes 16) (λ to l. rw (le-ltb from 16 h) refl)
    ∙ row_same 48 16 (min nodes 16) (omega arith))

-- those to the first nodes are filled in
abbrev pub Filled : List ℕ → ℕ → List ℕ → ℕ → Type 0
Filled t from first to = first ≡ row 16 48 (reached t from) to

pub fill-starts : (t : List ℕ) (from : ℕ) → Filled t from (replicate 16 48) 0
fill-starts t from = sym (row-none 16 48 (reached t from))

module _ (t : List ℕ) (from : ℕ) (first : List ℕ) (to : ℕ) (F : Filled t from first to) where
  pub fill-turns : to < 16 → (r : ℕ) → r ≡ link_place (first_link (toward t to) from) → Filled t from (set first to r) (to + 1)
  unfolding reached
  fill-turns l r e = rw (F, e) (row_next 16 48 (reached t from) to l)

  pub fill-ends : from < 16 → (ends : List (List ℕ)) (ways : List ℕ) (links nodes : ℕ) → ByNode (net ends ways links 0) t → to ≡ min nodes 16
      → first ≡ first_links_over ends ways links nodes from
  unfolding reached first_links_over first_link_over
  fill-ends l ends ways links nodes T e =
      F
      ∙ ap (row 16 48 (reached t from)) e
      ∙ row-agree 16 48 (reached t from) (λ to. link_place (first_link_over ends ways links from to)) (min nodes 16)
      (λ to h. rw (lt-ltb from 16 l) (ap link_place (first-same ends ways links t T to from l)))
