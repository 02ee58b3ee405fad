-- A given route, read link by link from its place d on: whether it is one, and what follows it. Each branch of the code is one law.
use mathlib.Core.Path.{◌≡◌, refl, sym, ap, ap₂, subst, ◌∙◌}
use mathlib.Core.Bool.{Bool, true, false, ◌&&◌, ◌||◌}
use mathlib.Core.Option.{some}
use mathlib.Core.List.{List, [], ◌∷◌}
use Prim.Native.Nat.{ℕ, suc, ◌+◌, ◌-◌, ◌/◌, ◌%◌, ◌^◌, ◌<◌, ◌≤◌}
use native.Mathlib.Numerals.{add-one}
use native.Mathlib.Omega.{arith}
use borrow.Author.Tests.{leb-true, leb-false, eqb-true, eqb-false, eq-eqb, ne_eqb}
use lib.Bits.{bit_and, bit_xor}
use lib.Dec.{eqb, leb}
use lib.ListN.{length, get_or, drop, drop_of_length-le}
use lib.Seq.{drop-cons}
use Rattle.lists.proofs.Bools.{and_left, and_right, or-no-left, or-no-right, no_true, both_ways}
use Rattle.route.specs.Route.{Net, Sound, also, IsRoute, arrived, passed}
use Rattle.route.specs.All.{all_from, no_more, no_route, first_of, next_of}
use Rattle.route.specs.Private.{least_try, is_route}
use Rattle.route.proofs.Laws.{also-other, all_here, all_sound}
use Rattle.route.proofs.Next.{or_later, behind, next-found, next-absent, next-on, is_route-yes, is_route-of}
use Rattle.route_links.specs.Sets.{has}
use Rattle.route_links.specs.Private.{net_of, met_of, gone_after, links_on, routes_on, routes_by, Standing, Choosing}
use Rattle.route_links.proofs.Arrays.{never}
use Rattle.route_links.proofs.Cover.{later-cover}
use Rattle.route_links.proofs.Digits.{without-small}
use Rattle.route_links.proofs.Standing.{met-after, fewer, opened, gone-known, links-small}
use Rattle.route_links.proofs.Table.{table-sound}
use Rattle.route_ahead.specs.Ahead.{LooksAhead}
use Rattle.route_ahead.proofs.Going.{left-ahead}

-- ---- the digit of a link

pub is-in : (w i : ℕ) → w / 2 ^ i % 2 ≡ 1 → has w i ≡ true
unfolding has
is-in w i e = eq-eqb (w / 2 ^ i % 2) 1 e

pub not_in : (w i : ℕ) → (w / 2 ^ i % 2 ≡ 1 → ⊥) → has w i ≡ false
unfolding has
not_in w i e = ne_eqb (w / 2 ^ i % 2) 1 e

-- ---- after a given route, over any net

module _ (G : Net) (sound : Sound G) where
  -- after what is no route there is none
  next-no_route : (n : ℕ) (met : ℕ → Bool) (r : List ℕ) → (IsRoute G n met r → ⊥) → next_of (all_from G n met) r ≡ no_route
  next-no_route n met r h = next-absent (all_from G n met) r (λ m. h (all_sound G n met r m))

  -- after i and a route from where it leads: that after the route, or else the least that begins with a later link
  next-step : (n i m : ℕ) (met : ℕ → Bool) (rest : List ℕ) → ¬ (n ≡ G.goal) → i < G.links → G.far i n ≡ some m → met m ≡ false
      → next_of (all_from G n met) (i ∷ rest) ≡ or_later (behind i (next_of (all_from G m (also m met)) rest)) (least_try G n met (suc i))
  unfolding or_later behind
  next-step n i m met rest ne l e f = go (is_route G m (also m met) rest) refl
    where
      same_end : (g : ℕ) → G.far i n ≡ some g → g ≡ m
      same_end g q = cc

      strip : IsRoute G n met (i ∷ rest) → IsRoute G m (also m met) rest
      strip (passed {f = g} ne l q k p) = subst (λ (z : ℕ). IsRoute G z (also z met) rest) (same_end g q) p

      go : (b : Bool) → is_route G m (also m met) rest ≡ b
          → next_of (all_from G n met) (i ∷ rest) ≡ or_later (behind i (next_of (all_from G m (also m met)) rest)) (least_try G n met (suc i))
      go true h = next-on G sound n i m met rest ne l e f (is_route-yes G m (also m met) rest h)
      go false h =
          next-no_route n met (i ∷ rest) (λ p. both_ways (is_route-of G (strip p)) h)
          ∙ sym (ap (λ a. or_later (behind i a) (least_try G n met (suc i))) (next-no_route m (also m met) rest (λ p. both_ways (is_route-of G p) h)))

-- ---- over the table: r, whose first d links led to the node f

module _ (t : List ℕ) (f gone d : ℕ) (S : Standing t f gone d) (r : List ℕ) where
  abbrev over : Bool
  over = leb (length r) d

  abbrev here : Bool
  here = eqb f (get_or t 80 0)

  sound : Sound (net_of t)
  sound = table-sound t S.table

  -- its end is the goal; or it ends elsewhere, or goes on from the goal
  pub later-end : (over && here) ≡ true → next_of (routes_on t f gone) (drop d r) ≡ no_more
  unfolding first_of routes_on net_of
  later-end e =
      let h = leb-true (length r) d (and_left over here e) in
      let q = eqb-true f (get_or t 80 0) (and_right over here e) in
      rw (drop_of_length-le r h, all_here (net_of t) f (also f (met_of gone)) q) (next-found [] [] [] refl)

  pub later-stray : (over && here) ≡ false → (over || here) ≡ true → next_of (routes_on t f gone) (drop d r) ≡ no_route
  unfolding routes_on net_of
  later-stray e o = go over refl here refl e o
    where
      ended : (s : List ℕ) → s ≡ [] → (f ≡ get_or t 80 0 → ⊥) → IsRoute (net_of t) f (also f (met_of gone)) s → ⊥
      ended s e ne (arrived q) = ne q
      ended s e ne (passed ne' l q k p) = never (cc)

      begun : (s : List ℕ) (i : ℕ) (s' : List ℕ) → s ≡ i ∷ s' → f ≡ get_or t 80 0 → IsRoute (net_of t) f (also f (met_of gone)) s → ⊥
      begun s i s' e q (arrived q') = never (cc)
      begun s i s' e q (passed ne l q' k p) = ne q

      go : (x : Bool) → over ≡ x → (y : Bool) → here ≡ y → (x && y) ≡ false → (x || y) ≡ true → next_of (all_from (net_of t) f (also f (met_of gone))) (drop d r) ≡ no_route
      go true p true q e o = absurd (both_ways refl e)
      go true p false q e o =
          next-no_route (net_of t) sound f (also f (met_of gone)) (drop d r) (ended (drop d r) (drop_of_length-le r (leb-true (length r) d p)) (eqb-false f (get_or t 80 0) q))
      go false p true q e o =
          next-no_route (net_of t) sound f (also f (met_of gone)) (drop d r)
          (begun (drop d r) (get_or r d 0) (drop (suc d) r) (drop-cons r d 0 (leb-false (length r) d p)) (eqb-true f (get_or t 80 0) q))
      go false p false q e o = absurd (both_ways o refl)

  module _ (goes : (over || here) ≡ false) where
    pub more : d < length r
    more = leb-false (length r) d (or-no-left over here goes)

    elsewhere : ¬ (f ≡ get_or t 80 0)
    elsewhere = eqb-false f (get_or t 80 0) (or-no-right over here goes)

    abbrev i : ℕ
    i = get_or r d 0

    abbrev then : ℕ
    then = gone_after t gone f

    -- its next link does not lead on
    pub later-off : has (links_on t gone f) i ≡ false → next_of (routes_on t f gone) (drop d r) ≡ no_route
    unfolding routes_on
    later-off e =
        rw (drop-cons r d 0 more)
        (next-no_route (net_of t) sound f (also f (met_of gone)) (i ∷ drop (suc d) r)
        (λ p. both_ways ((opened t f gone d S).keeps i (drop (suc d) r) (omega arith) (subst (λ m. IsRoute (net_of t) f m (i ∷ drop (suc d) r)) (sym (met-after t f gone d S)) p)) e))

    pub later-past : 48 ≤ i → next_of (routes_on t f gone) (drop d r) ≡ no_route
    later-past h = later-off (no_true (λ e. let w = (opened t f gone d S).opens i e in let k = (S.table.leads i f w.0 w.1.0).kept.place in omega arith))

    -- all that is needed where it does
    pub record Along : Type 0 where
      pub back : f ≤ get_or t (32 + get_or r d 0) 0
      pub stands : Standing t (get_or t (32 + get_or r d 0) 0 - f) (gone_after t gone f) (d + 1)
      pub says : next_of (routes_on t f gone) (drop d r)
          ≡ or_later (behind (get_or r d 0) (next_of (routes_on t (get_or t (32 + get_or r d 0) 0 - f) (gone_after t gone f)) (drop (d + 1) r))) (least_try (net_of t) f (met_of (gone_after t gone f)) (get_or r d 0 + 1))

    pub along : has (links_on t gone f) (get_or r d 0) ≡ true → Along
    unfolding routes_on net_of
    along e =
        let w = (opened t f gone d S).opens i e in
        let g = w.0 in
        let k = (S.table.leads i f g w.1.0).kept in
        let s = k.sum in
        let z : get_or t (32 + i) 0 - f ≡ g = omega arith in
        let F = fewer t f gone d S in
        let D = S.depth in
        record {
          back = omega arith;
          stands = subst (λ (x : ℕ). Standing t x then (d + 1)) (sym z)
              (record { table = S.table; node = k.far; fresh = w.1.1; goal = goal-after; known = gone-known t f gone d S; depth = omega arith });
          says = ap₂ (λ m l. next_of (all_from (net_of t) f m) l) (sym (met-after t f gone d S)) (drop-cons r d 0 more)
              ∙ next-step (net_of t) sound f i g (met_of then) (drop (suc d) r) elsewhere k.place w.1.0 w.1.1
              ∙ ap (λ (n : ℕ). or_later (behind i (next_of (routes_on t g then) (drop (suc d) r))) (least_try (net_of t) f (met_of then) n)) (sym (add-one i))
              ∙ ap₂ (λ (n x : ℕ). or_later (behind i (next_of (routes_on t x then) (drop n r))) (least_try (net_of t) f (met_of then) (i + 1))) (sym (add-one d)) (sym z);
        }
      where
        goal-after : met_of then (get_or t 80 0) ≡ false
        goal-after = ap (λ m. m (get_or t 80 0)) (met-after t f gone d S) ∙ also-other f (met_of gone) (get_or t 80 0) (λ z. elsewhere (sym z)) ∙ S.goal

    -- of its later links those that begin a route are tried after it
    pub record After (kept : ℕ) : Type 0 where
      pub chooses : Choosing t f (gone_after t gone f) kept d
      pub says : least_try (net_of t) f (met_of (gone_after t gone f)) (get_or r d 0 + 1) ≡ first_of (routes_by t f (gone_after t gone f) kept)

    pub after-it : (kept : ℕ) → get_or r d 0 < 48 → LooksAhead t (gone_after t gone f) (bit_xor (links_on t gone f) (bit_and (links_on t gone f) (2 ^ (get_or r d 0 + 1) - 1))) kept → After kept
    unfolding least_try routes_on
    after-it kept h ahead =
        let later = bit_xor (links_on t gone f) (bit_and (links_on t gone f) (2 ^ (i + 1) - 1)) in
        let L = left-ahead t f gone d S elsewhere later kept (i + 1) (omega arith) (without-small 48 (links_on t gone f) (2 ^ (i + 1) - 1) (links-small t f gone d S))
        (later-cover (net_of t) (links_on t gone f) f (met_of then) (i + 1) (opened t f gone d S)) ahead in
        record { chooses = L.chooses; says = ap first_of (L.says elsewhere) }
