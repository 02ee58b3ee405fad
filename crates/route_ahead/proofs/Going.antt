-- On from a node by the links that the look ahead keeps: they cover the routes, and each of them begins one.
use mathlib.Core.Path.{◌≡◌, refl, sym, ◌∙◌, ap, subst, fun_ext}
use mathlib.Core.Bool.{Bool, true, false, not}
use mathlib.Core.Option.{some}
use mathlib.Core.List.Memᴰ
use mathlib.Core.List.{List, [], ◌∷◌, Memᴰ}
use Prim.Native.Nat.{ℕ, zero, suc, ◌+◌, ◌^◌, ◌<◌, ◌≤◌}
use native.Mathlib.Omega.{arith}
use borrow.Author.Tests.{eqb-false, ne_eqb}
use lib.Bits.{bit_or, bit_xor, or_zero_l, and_zero_r, xor_zero_r}
use lib.Dec.{eqb}
use lib.ListN.{get_or}
use Rattle.lists.proofs.Bools.{no-not, no_true, not-no, both_ways}
use Rattle.route.specs.Route.{Net, also, only, IsRoute, RouteFrom, arrived}
use Rattle.route.specs.All.{all_from, all_routes}
use Rattle.route.proofs.Laws.{also-self, also-other, all_are}
use Rattle.route_links.specs.Sets.{has}
use Rattle.route_links.specs.Private.{alone, net_of, Walkable, met_of, Covers, gone_after, links_on, Standing, OnRoute}
use Rattle.route_links.proofs.Digits.{has-none, has-past, has-positive, some-digit, past-small}
use Rattle.route_links.proofs.Cover.{none_in}
use Rattle.route_links.proofs.Table.{table-sound}
use Rattle.route_links.proofs.Standing.{Left, left, Going, going-by, met-after, opened, links-small, start-standing}
use Rattle.route_ahead.specs.Ahead.{Worth, Asked, LooksAhead, LooksOn, Reaches}

-- what is kept covers what the links cover
pub worth-covers : (G : Net) (at : ℕ) (met : ℕ → Bool) (links kept j : ℕ) → Covers G links at met j → Worth G at met links kept → Covers G kept at met j
worth-covers G at met links kept j C W =
    record {
      above = λ i e. C.above i (W.among i e);
      opens = λ i e. C.opens i (W.among i e);
      keeps = λ i r l p. W.all i (C.keeps i r l p) (r, p);
    }

worth-small : (G : Net) (at : ℕ) (met : ℕ → Bool) (links kept : ℕ) → links < 2 ^ 48 → Worth G at met links kept → kept < 2 ^ 48
worth-small G at met links kept h W = past-small 48 kept (λ i l. no_true (λ e. both_ways (W.among i e) (has-past 48 links i h l)))

module _ (t : List ℕ) (f gone d : ℕ) (S : Standing t f gone d) (ne : f ≡ get_or t 80 0 → ⊥) where
  abbrev then : ℕ
  then = gone_after t gone f

  -- the question that is asked at f
  asked : (links : ℕ) → ((i : ℕ) → has links i ≡ true → (g : ℕ) × (((net_of t).far i f ≡ some g) × (met_of (gone_after t gone f) g ≡ false)))
      → Asked t f (gone_after t gone f) links
  unfolding net_of
  asked links opens =
      record {
        table = S.table;
        node = S.node;
        met = ap (λ m. m f) (met-after t f gone d S) ∙ also-self f (met_of gone);
        other = ne;
        goal = ap (λ m. m (get_or t 80 0)) (met-after t f gone d S) ∙ also-other f (met_of gone) (get_or t 80 0) (λ e. ne (sym e)) ∙ S.goal;
        opens = opens;
      }

  -- of the links at place k or later those that are kept
  pub left-ahead : (links kept k : ℕ) → k ≤ 48 → links < 2 ^ 48 → Covers (net_of t) links f (met_of (gone_after t gone f)) k → LooksAhead t (gone_after t gone f) links kept
      → Left t f gone d S kept k
  left-ahead links kept k h small C L =
      let W = L f (asked links C.opens) in
      left t f gone d S kept k h (worth-covers (net_of t) f (met_of then) links kept k C W) (λ i e. W.begins i e) (worth-small (net_of t) f (met_of then) links kept small W)

-- on a route, one of the links begins one
module _ (t : List ℕ) (f gone d : ℕ) (O : OnRoute t f gone d) (ne : f ≡ get_or t 80 0 → ⊥) where
  pub going-ahead : (kept : ℕ) → LooksOn t (gone_after t gone f) (links_on t gone f) kept → Going t f gone d O.stands kept
  unfolding net_of
  going-ahead kept L = go O.leads.1
    where
      S : Standing t f gone d
      S = O.stands

      C : Covers (net_of t) (links_on t gone f) f (met_of (gone_after t gone f)) 0
      C = opened t f gone d S

      go : {r : List ℕ} → IsRoute (net_of t) f (also f (met_of gone)) r → Going t f gone d S kept
      go {r = []} (arrived e) = absurd (ne e)
      go {r = i ∷ r} p =
          let q = subst (λ m. IsRoute (net_of t) f m (i ∷ r)) (sym (met-after t f gone d S)) p in
          let W = L f (asked t f gone d S ne (links_on t gone f) C.opens) i (C.keeps i r (omega arith) q) (r, q) in
          going-by t f gone d S kept (worth-covers (net_of t) f (met_of (gone_after t gone f)) (links_on t gone f) kept 0 C W) (λ j e. W.begins j e)
          (worth-small (net_of t) f (met_of (gone_after t gone f)) (links_on t gone f) kept (links-small t f gone d S) W)

-- ---- from a node, no other being met

-- at the goal
pub here-reaches : (t : List ℕ) (from : ℕ) → from ≡ get_or t 80 0 → (r : List ℕ) × RouteFrom (net_of t) from r
unfolding net_of
here-reaches t from e = ([], arrived e)

module _ (t : List ℕ) (from kept : ℕ) (T : Walkable t) (node : from < 16) (ne : from ≡ get_or t 80 0 → ⊥)
    (L : LooksAhead t (bit_or (get_or t from 0) (alone (48 + from))) (get_or t (16 + from) 0) kept) where
  abbrev S : Standing t from 0 0
  S = start-standing t from T node

  met-only : met_of (gone_after t 0 from) ≡ only from
  unfolding only met_of
  met-only = met-after t from 0 0 S ∙ ap (also from) (fun_ext (λ n. has-none (48 + n)))

  all-links : links_on t 0 from ≡ get_or t (16 + from) 0
  all-links = ap (bit_xor (get_or t (16 + from) 0)) (and_zero_r (get_or t (16 + from) 0)) ∙ xor_zero_r (get_or t (16 + from) 0)

  C : Covers (net_of t) (get_or t (16 + from) 0) from (met_of (gone_after t 0 from)) 0
  C = subst (λ (w : ℕ). Covers (net_of t) w from (met_of (gone_after t 0 from)) 0) all-links (opened t from 0 0 S)

  W : Worth (net_of t) from (met_of (gone_after t 0 from)) (get_or t (16 + from) 0) kept
  W =
      subst (λ (w : ℕ). LooksAhead t (bit_or w (alone (48 + from))) (get_or t (16 + from) 0) kept) (sym (or_zero_l (get_or t from 0))) L from
      (asked t from 0 0 S ne (get_or t (16 + from) 0) C.opens)

  pub kept-reaches : not (eqb kept 0) ≡ true → (r : List ℕ) × RouteFrom (net_of t) from r
  kept-reaches e =
      let w = some-digit kept (positive kept (eqb-false kept 0 (no-not (eqb kept 0) e))) in
      let b = W.begins w.0 w.1 in
      (w.0 ∷ b.0, subst (λ m. IsRoute (net_of t) from m (w.0 ∷ b.0)) met-only b.1)
    where
      positive : (w : ℕ) → (w ≡ 0 → ⊥) → 0 < w
      positive zero h = absurd (h refl)
      positive (suc w) h = omega arith

  pub reaches-kept : (r : List ℕ) × RouteFrom (net_of t) from r → not (eqb kept 0) ≡ true
  unfolding net_of
  reaches-kept (r, p) = go p
    where
      go : {r : List ℕ} → IsRoute (net_of t) from (only from) r → not (eqb kept 0) ≡ true
      go {r = []} (arrived e) = absurd (ne e)
      go {r = i ∷ r} p =
          let q = subst (λ m. IsRoute (net_of t) from m (i ∷ r)) (sym met-only) p in
          let h = has-positive kept i (W.all i (C.keeps i r (omega arith) q) (r, q)) in
          not-no (ne_eqb kept 0 (λ e. absurd (omega arith)))

-- ---- at the start of a walk

module _ (t : List ℕ) (from : ℕ) (answer : Bool) (R : Reaches t from answer) (T : Walkable t) (node : from < 16) where
  -- a route leads on
  pub reached : answer ≡ true → OnRoute t from 0 0
  unfolding only met_of
  reached e =
      let w = (R T node).0 e in
      record {
        stands = start-standing t from T node;
        leads = (w.0, subst (λ m. IsRoute (net_of t) from (also from m) w.0) (fun_ext (λ n. sym (has-none (48 + n)))) w.1);
      }

  pub some-reached : answer ≡ true → all_routes (net_of t) from ≡ [] → ⊥
  unfolding all_routes
  some-reached e z =
      let w = (R T node).0 e in
      Memᴰ.not-nil (subst (λ l. Memᴰ w.0 l) z ((all_are (net_of t) (table-sound t T) from (only from) w.0).1 w.1))

  -- there is none
  pub unreached : answer ≡ false → all_routes (net_of t) from ≡ []
  unfolding all_routes
  unreached e =
      none_in (all_from (net_of t) from (only from))
      (λ r m. both_ways ((R T node).1 (r, (all_are (net_of t) (table-sound t T) from (only from) r).0 m)) e)
