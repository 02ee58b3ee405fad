-- The theorems of specs/Promises.antt: slots stand one after the other, and routes stand in the list once each.
use Prim.Native.Nat.{ℕ, zero, suc, ◌<◌}
use mathlib.Core.Path.{◌≡◌, refl, ap, ◌∙◌}
use mathlib.Core.Logic.{◌⊎◌, inl, inr}
use mathlib.Core.Bool.{true, false}
use mathlib.Core.List.Memᴰ
use mathlib.Core.List.{List, [], ◌∷◌, Memᴰ}
use native.Mathlib.Numerals.{add-one}
use native.Mathlib.Omega.{arith}
use borrow.Author.Tests.{ltb-true, ltb-false}
use lib.ListN.{length, take, drop, get_or, length-take}
use lib.Seq.{take_all, get_or-take}
use Rattle.lists.specs.Refusals.{unless_refused}
use Rattle.route.specs.Route.{only, NoneTwice}
use Rattle.route.specs.All.{all_routes, route, first_of, same_links, next_of}
use Rattle.route.proofs.Tests.{either, same-yes}
use Rattle.route.proofs.Order.{all_once}
use Rattle.route.proofs.Next.{next-found, next_past}
use Rattle.route_list.specs.Listing.{slot_of, slots_of, slot_room, list_count, list_more, list_after}
use Rattle.route_list.specs.Promises.{SlotsInOrder, AllListed, GoesOn}
use Rattle.route_list.proofs.Slots.{short-take, slot_at, all_short}

-- ---- the slots

pub slots-in-order : SlotsInOrder
unfolding list_count list_after unless_refused
slots-in-order G a buf k h i e l =
    let rs : List (List ℕ) = all_routes G a in
    let n : ℕ = slot_room (length buf) in
    let m : length (take n rs) ≡ _ = length-take n rs in
    slot_at (take n rs) (drop (length (slots_of (take n rs))) buf) k (short-take n rs (all_short G a h i)) l ∙ ap slot_of (get_or-take n rs k [] (omega arith))

pub all_listed : AllListed
unfolding list_more unless_refused
all_listed rs n e m = take_all (slot_room n) rs (ltb-false (slot_room n) (length rs) m)

-- ---- the one after a route

mem-at : (rs : List (List ℕ)) (k : ℕ) → k < length rs → Memᴰ (get_or rs k []) rs
mem-at [] k h = absurd (omega arith)
mem-at (r ∷ rs) zero h = Memᴰ.head refl
mem-at (r ∷ rs) (suc k) h = Memᴰ.tail (mem-at rs k (omega arith))

first_is : (rs : List (List ℕ)) → 0 < length rs → first_of rs ≡ route (get_or rs 0 [])
unfolding first_of
first_is [] h = absurd (omega arith)
first_is (r ∷ rs) h = refl

next-at : (rs : List (List ℕ)) (k : ℕ) → NoneTwice rs → suc k < length rs → next_of rs (get_or rs k []) ≡ route (get_or rs (suc k) [])
next-at [] k u h = absurd (omega arith)
next-at (r ∷ rs) zero u h = next-found r rs r refl ∙ first_is rs (omega arith)
next-at (r ∷ rs) (suc k) u h = next_past r rs (get_or rs k []) (other (either _)) ∙ next-at rs k u.1 (omega arith)
  where
    other : (same_links r (get_or rs k []) ≡ true) ⊎ (same_links r (get_or rs k []) ≡ false) → same_links r (get_or rs k []) ≡ false
    other (inl e) = absurd (u.0 (Memᴰ.cast (same-yes r (get_or rs k []) e) (mem-at rs k (omega arith))))
    other (inr e) = e

pub goes_on : GoesOn
unfolding list_count list_more unless_refused all_routes
goes_on G a n k e m q =
    let rs : List (List ℕ) = all_routes G a in
    let h : slot_room n < length rs = ltb-true (slot_room n) (length rs) m in
    let l : length (take (slot_room n) rs) ≡ _ = length-take (slot_room n) rs in
    rw (add-one k) (next-at rs k (all_once G a (only a)) (omega arith))
