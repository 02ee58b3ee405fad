-- How long the route lines are.
use Prim.Native.Nat.{ℕ, suc, zero, ◌+◌, ◌*◌, ◌≤◌}
use mathlib.Core.Path.{refl}
use mathlib.Core.Bool.{Bool}
use mathlib.Core.List.{List, [], ◌∷◌, Memᴰ}
use native.Mathlib.Omega.{arith}
use lib.ListN.{length, length-append}
use Rattle.route.specs.Route.{Net, IsRoute, arrived, passed}
use Rattle.text.specs.Decimal.{decimal}
use Rattle.text.proofs.Lengths.{two}
use Rattle.sheet_routes.specs.RouteLines.{places_text, route_line, list_text}

-- a route's places have two digits where there are at most 100 links
module _ (G : Net) (few : G.links ≤ 100) where
  places-long : {at : ℕ} {met : ℕ → Bool} {r : List ℕ} → IsRoute G at met r → length (places_text r) ≤ 3 * length r
  unfolding places_text
  places-long (arrived e) = omega arith
  places-long (passed {i = i} {r = r} n h f m p) =
      let d : length (decimal i) ≤ 2 = two 20 i (omega arith) in
      let k = places-long p in
      rw (length-append, length-append) (omega arith)

  pub route-long : {at : ℕ} {met : ℕ → Bool} {r : List ℕ} → IsRoute G at met r → length r ≤ 15 → length (route_line r) ≤ 45
  unfolding route_line
  route-long (arrived e) s = omega arith
  route-long (passed {i = i} {r = r} n h f m p) s =
      let d : length (decimal i) ≤ 2 = two 20 i (omega arith) in
      let k = places-long p in
      rw (length-append, length-append) (omega arith)

-- a line for each, and the last one
pub list-long : (w most : ℕ) (l : List (List ℕ)) → ((r : List ℕ) → Memᴰ r l → length (route_line r) ≤ w) → length (list_text most l) ≤ w * most + 5
unfolding list_text
list-long w zero [] h = omega arith
list-long w (suc most) [] h = omega arith
list-long w zero (r ∷ l) h = omega arith
list-long w (suc most) (r ∷ l) h =
    let p = h r (Memᴰ.head refl) in
    let q = list-long w most l (λ s m. h s (Memᴰ.tail m)) in
    rw length-append (omega arith)
