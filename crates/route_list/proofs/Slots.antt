-- Slots one after the other: each has 16 bytes, so that slot k begins at 16 * k.
use Prim.Native.Nat.{ℕ, zero, suc, ◌+◌, ◌*◌, ◌-◌, ◌<◌, ◌≤◌}
use mathlib.Core.Path.{◌≡◌, refl, ap, ◌∙◌}
use mathlib.Core.Logic.{◌⊎◌, inl, inr}
use mathlib.Core.Bool.{Bool, true, false}
use mathlib.Core.List.Memᴰ
use mathlib.Core.List.{List, [], ◌∷◌, ◌++◌, append_assoc, Memᴰ}
use native.Mathlib.Omega.{arith}
use borrow.Author.Tests.{eqb-true, eqb-false}
use lib.Dec.{eqb}
use lib.ListN.{length, take, drop, get_or, replicate, length-append, length-replicate}
use lib.Seq.{take_at, drop-append-add}
use Rattle.route.specs.Route.{Net, also, only}
use Rattle.route.specs.All.{links_from, routes, unmet, all_from, all_routes}
use Rattle.route.proofs.Tests.{either}
use Rattle.route.proofs.Laws.{begun, routes-here, routes-none, routes-on, unmet-only}
use Rattle.route_list.specs.Listing.{slot_of, slots_of}

-- none of the routes is longer than 15 links
abbrev pub Short : List (List ℕ) → Type 0
Short [] = Unit {0}
Short (r ∷ rs) = (length r ≤ 15) × Short rs

pub short-all : (rs : List (List ℕ)) → ((r : List ℕ) → Memᴰ r rs → length r ≤ 15) → Short rs
short-all [] h = tt
short-all (r ∷ rs) h = (h r (Memᴰ.head refl), short-all rs (λ q m. h q (Memᴰ.tail m)))

pub short-take : (n : ℕ) (rs : List (List ℕ)) → Short rs → Short (take n rs)
short-take zero [] s = s
short-take zero (r ∷ rs) s = tt
short-take (suc n) [] s = s
short-take (suc n) (r ∷ rs) s = (s.0, short-take n rs s.1)

pub length-slot : (r : List ℕ) → length r ≤ 15 → length (slot_of r) ≡ 16
unfolding slot_of
length-slot r h =
    let e : length (r ++ replicate (15 - length r) 0) ≡ length r + (15 - length r) =
    length-append r (replicate (15 - length r) 0) ∙ ap (λ (k : ℕ). length r + k) (length-replicate (15 - length r) 0)
    in
    omega arith

pub length-slots : (rs : List (List ℕ)) → Short rs → length (slots_of rs) ≡ 16 * length rs
unfolding slots_of
length-slots [] s = refl
length-slots (r ∷ rs) s =
    let e = length-append (slot_of r) (slots_of rs) in
    let h = length-slot r s.0 in
    let k = length-slots rs s.1 in
    omega arith

-- slot k, whatever stands after the slots
pub slot_at : (rs : List (List ℕ)) (rest : List ℕ) (k : ℕ) → Short rs → k < length rs → take 16 (drop (16 * k) (slots_of rs ++ rest)) ≡ slot_of (get_or rs k [])
unfolding slots_of
slot_at [] rest k s h = absurd (omega arith)
slot_at (r ∷ rs) rest zero s h =
    ap (take 16) (append_assoc (slot_of r) (slots_of rs) rest) ∙ take_at (slot_of r) (slots_of rs ++ rest) 16 (length-slot r s.0)
slot_at (r ∷ rs) rest (suc k) s h =
    let l = length-slot r s.0 in
    let e : 16 * suc k ≡ length (slot_of r) + 16 * k = omega arith in
    ap (λ (l : List ℕ). take 16 (drop (16 * suc k) l)) (append_assoc (slot_of r) (slots_of rs) rest)
    ∙ ap (λ (j : ℕ). take 16 (drop j (slot_of r ++ (slots_of rs ++ rest)))) e
    ∙ ap (take 16) (drop-append-add (slot_of r) (slots_of rs ++ rest) (16 * k))
    ∙ slot_at rs rest k s.1 (omega arith)

-- ---- no route is longer than the nodes that are not met

module _ (G : Net) where
  here-short : (k at : ℕ) (met : ℕ → Bool) (r : List ℕ) → at ≡ G.goal → Memᴰ r (routes G k at met) → length r ≤ k
  here-short k at met r e m =
      let q : r ≡ [] = Memᴰ.eq_of_singleton (rw (routes-here G at met k e) at m) in
      let l : length r ≡ 0 = ap length q in
      omega arith

  routes-short : (k at : ℕ) (met : ℕ → Bool) (r : List ℕ) → Memᴰ r (routes G k at met) → length r ≤ k
  routes-short zero at met r m = go (either (eqb at G.goal))
    where
      go : (eqb at G.goal ≡ true) ⊎ (eqb at G.goal ≡ false) → length r ≤ 0
      go (inl e) = here-short zero at met r (eqb-true at G.goal e) m
      go (inr e) = absurd (Memᴰ.not-nil (rw (routes-none G at met (eqb-false at G.goal e)) at m))
  routes-short (suc k) at met r m = go (λ f q n. routes-short k f (also f met) q n) (either (eqb at G.goal))
    where
      go : ((f : ℕ) (q : List ℕ) → Memᴰ q (routes G k f (also f met)) → length q ≤ k) → (eqb at G.goal ≡ true) ⊎ (eqb at G.goal ≡ false) → length r ≤ suc k
      go below (inl e) = here-short (suc k) at met r (eqb-true at G.goal e) m
      go below (inr e) =
          let b = begun G (λ f. routes G k f (also f met)) at met (links_from G 0) r (rw (routes-on G at met k (eqb-false at G.goal e)) at m) in
          let l : length r ≡ suc (length b.rest) = ap length b.is in
          let h = below b.to b.rest b.on in
          omega arith

  pub all_short : (a : ℕ) → G.nodes ≤ 16 → a < G.nodes → Short (all_routes G a)
  unfolding all_routes all_from
  all_short a h l = short-all (all_routes G a) (λ r m. let k = routes-short (unmet G.nodes (only a)) a (only a) r m in omega (arith, unmet-only G.nodes a l))
