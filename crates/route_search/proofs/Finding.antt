-- The first route by some links goes by the lowest of them; and what the code holds: one law puts a link before a route that was found.
use mathlib.Core.Path.{◌≡◌, refl, sym, ap, ◌∙◌}
use mathlib.Core.List.Memᴰ
use mathlib.Core.List.{List, [], ◌∷◌, ◌++◌, map, append_assoc, Memᴰ}
use Prim.Native.Nat.{ℕ, suc, ◌+◌, ◌-◌, ◌≤◌}
use native.Mathlib.Omega.{arith}
use lib.Bits.{bit_xor}
use lib.Dec.{lit≤}
use lib.ListN.{length, get_or, set, length-replicate, replicate-append-replicate, length-append}
use lib.Seq.{set_at}
use Rattle.route.specs.Route.{also}
use Rattle.route.specs.All.{all_from, Finding, route, no_more, no_route, first_of}
use Rattle.route.proofs.Laws.{all_are}
use Rattle.route.proofs.Next.{or_later, behind, first-append, first-map}
use Rattle.route_links.specs.Private.{alone, net_of, met_of, routes_on, routes_by, OnRoute}
use Rattle.route_links.proofs.Arrays.{never}
use Rattle.route_links.proofs.Standing.{routes-here}
use Rattle.route_links.proofs.Table.{table-sound}
use Rattle.route_links.proofs.Turning.{Turn, routes-none}
use Rattle.std.specs.Prelude.{Option, Some, None, Result, Ok, Err, ok_or}
use Rattle.refusal.specs.declared.Refusal.{Refusal}
use Rattle.refusal.specs.declared.Refusal.TheVariants.{NoRoute}
use Rattle.refusal.specs.Numbers.{Answers}
use Rattle.refusal.proofs.Laws.{names}
use Rattle.route_search.specs.declared.Route.{Route}
use Rattle.route_search.specs.Private.{zeros, Found, found_at, route_found, found_of, found_route}

-- ---- the first route

-- by the lowest link, or else by the others
pub first-turn : {t : List ℕ} {at gone links d i : ℕ} → Turn t at gone links d i
    → first_of (routes_by t at gone links) ≡ or_later (behind i (first_of (routes_on t (get_or t (32 + i) 0 - at) gone))) (first_of (routes_by t at gone (bit_xor links (alone i))))
first-turn {t} {at} {gone} {links} {d} {i} u =
    let l = routes_on t (get_or t (32 + i) 0 - at) gone in
    let rest = routes_by t at gone (bit_xor links (alone i)) in
    ap first_of u.says ∙ first-append (map (λ r. i ∷ r) l) rest ∙ ap (λ a. or_later a (first_of rest)) (first-map i l)

pub first-none : (t : List ℕ) (at gone links : ℕ) → links ≡ 0 → first_of (routes_by t at gone links) ≡ no_more
unfolding first_of
first-none t at gone links e = ap first_of (routes-none t at gone links e)

pub first-here : (t : List ℕ) (f gone : ℕ) → f ≡ get_or t 80 0 → first_of (routes_on t f gone) ≡ route []
unfolding first_of
first-here t f gone e = ap first_of (routes-here t f gone e)

-- on a route there is one
pub first-leads : (t : List ℕ) (f gone d : ℕ) → OnRoute t f gone d → first_of (routes_on t f gone) ≡ no_more → ⊥
unfolding routes_on first_of
first-leads t f gone d O e = go (all_from (net_of t) f (also f (met_of gone))) ((all_are (net_of t) (table-sound t O.stands.table) f (also f (met_of gone)) O.leads.0).1 O.leads.1) e
  where
    go : {r : List ℕ} (l : List (List ℕ)) → Memᴰ r l → first_of l ≡ no_more → ⊥
    go [] m e = Memᴰ.not-nil m
    go (s ∷ l) m e = never (cc)

-- ---- what the code holds

zeros-add : (m n : ℕ) → zeros m ++ zeros n ≡ zeros (m + n)
zeros-add m n = replicate-append-replicate m n 0

-- one link more in front of a route that stands from place d + 1 on
shifted : (d i : ℕ) (r : List ℕ) → set (zeros (d + 1) ++ (r ++ zeros (15 - (d + 1 + length r)))) d i ≡ zeros d ++ ((i ∷ r) ++ zeros (15 - (d + suc (length r))))
shifted d i r =
    let p : d + 1 + length r ≡ d + suc (length r) = omega arith in
    rw (p, ← zeros-add d 1, append_assoc (zeros d) (0 ∷ []))
    (set_at (zeros d) 0 (r ++ zeros (15 - (d + suc (length r)))) i d (length-replicate d 0))

put : ℕ → ℕ → Found → Found
put d i f = record { refusal = f.refusal; len = f.len; route = set f.route d i }

put-route : (d i : ℕ) (r : List ℕ) → put d i (found_at (d + 1) (route r)) ≡ found_at d (route (i ∷ r))
unfolding put
put-route d i r =
    let p : d + 1 + length r ≡ d + suc (length r) = omega arith in
    λ j. record { refusal = 0; len = p j; route = shifted d i r j }

-- an answer that was found, with its link before it, goes before the rest; one that was not leaves the rest; of what is no route nothing follows
module _ (d i : ℕ) (o rest : Finding) (w : Found) (e : w ≡ found_at (d + 1) o) where
  refusal-of : w.refusal ≡ (found_at (d + 1) o).refusal
  refusal-of = ap (λ (f : Found). f.refusal) e

  pub known_by : (w.refusal ≡ 41 → ⊥) → o ≡ no_route → ⊥
  known_by k q = k (refusal-of ∙ ap (λ (p : Finding). (found_at (d + 1) p).refusal) q)

  pub found-put : (o ≡ no_route → ⊥) → (w.refusal ≡ 43 → ⊥)
      → ◌≡◌ {A = Found} (record { refusal = w.refusal; len = w.len; route = set w.route d i }) (found_at d (or_later (behind i o) rest))
  unfolding put or_later behind
  found-put n k = go o e n refusal-of
    where
      go : (o : Finding) → w ≡ found_at (d + 1) o → (o ≡ no_route → ⊥) → w.refusal ≡ (found_at (d + 1) o).refusal → put d i w ≡ found_at d (or_later (behind i o) rest)
      go no_more e n q = absurd (k q)
      go no_route e n q = absurd (n refl)
      go (route r) e n q = ap (put d i) e ∙ put-route d i r

  pub found_some : (o ≡ no_more → ⊥) → w.refusal ≡ 43 → ⊥
  found_some n k = go o n refusal-of
    where
      go : (o : Finding) → (o ≡ no_more → ⊥) → w.refusal ≡ (found_at (d + 1) o).refusal → ⊥
      go no_more n q = n refl
      go no_route n q = absurd (omega (arith, q, k))
      go (route r) n q = absurd (omega (arith, q, k))

  pub found_none : w.refusal ≡ 43 → or_later (behind i o) rest ≡ rest
  unfolding or_later behind
  found_none k = go o refusal-of
    where
      go : (o : Finding) → w.refusal ≡ (found_at (d + 1) o).refusal → or_later (behind i o) rest ≡ rest
      go no_more q = refl
      go no_route q = absurd (omega (arith, q, k))
      go (route r) q = absurd (omega (arith, q, k))

  pub found-not : w.refusal ≡ 41 → w ≡ found_at d (or_later (behind i o) rest)
  unfolding or_later behind
  found-not k = go o e refusal-of
    where
      go : (o : Finding) → w ≡ found_at (d + 1) o → w.refusal ≡ (found_at (d + 1) o).refusal → w ≡ found_at d (or_later (behind i o) rest)
      go no_more e q = absurd (omega (arith, q, k))
      go no_route e q = e
      go (route r) e q = absurd (omega (arith, q, k))

-- the first of a list is never 'no route was given'
pub first_some : (l : List (List ℕ)) → first_of l ≡ no_route → ⊥
unfolding first_of
first_some [] e = never (cc)
first_some (r ∷ l) e = never (cc)

-- the empty route from place d on is all zeros
pub found_here : (d : ℕ) → d ≤ 15 → ◌≡◌ {A = Found} (record { refusal = 0; len = d; route = zeros 15 }) (found_at d (route []))
found_here d h =
    let p : d ≡ d + 0 = omega arith in
    let q : d + (15 - (d + 0)) ≡ 15 = omega arith in
    let r : zeros 15 ≡ zeros d ++ zeros (15 - (d + 0)) = sym (zeros-add d (15 - (d + 0)) ∙ ap zeros q) in
    λ j. record { refusal = 0; len = p j; route = r j }

pub found-len : (d : ℕ) (o : Finding) (f : Found) → f ≡ found_at d o → length f.route ≡ 15 → f.len ≤ 15
found-len d no_more f e h = rw e (lit≤ tt)
found-len d no_route f e h = rw e (lit≤ tt)
found-len d (route r) f e h =
    let l : f.len ≡ d + length r = ap (λ (g : Found). g.len) e in
    let k : length f.route ≡ d + (length r + (15 - (d + length r))) = ap (λ (g : Found). length g.route) e ∙ simp (length-append, length-replicate) in
    omega arith

-- ---- the code's answers

-- what an answer holds of what was found
abbrev pub Finds : Result Route Refusal → Found → Type 0
Finds x f = Answers x f.refusal (found_route f)

pub found-ok : (f : Found) (r : Route) → Finds (Ok r) f → route_found r ≡ f
found-ok f r h = λ j. record { refusal = sym h.0 j; len = (h.1 j).len; route = (h.1 j).links }

pub ok-found : (f : Found) (r : Route) → route_found r ≡ f → Finds (Ok r) f
ok-found f r e = (sym (ap (λ (g : Found). g.refusal) e), ap found_route e)

-- where none is found there is no route
pub found-or : (f : Found) (x : Option Route) → found_of x ≡ f → Finds (ok_or x NoRoute) f
found-or f None e = ap (λ (g : Found). g.refusal) e
found-or f (Some r) e = ok-found f r e

-- a refusal but that is 41
pub found-else : (d : ℕ) (o : Finding) (r : Refusal) → Finds (Err r) (found_at d o) → (r ≡ NoRoute → ⊥) → (found_at d o).refusal ≡ 41
found-else d no_more r h n = absurd (n (names.one r NoRoute h))
found-else d no_route r h n = refl
found-else d (route s) r h n = absurd (names.none_zero r h)
