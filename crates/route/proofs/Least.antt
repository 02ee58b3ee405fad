-- 'First' is the least route, and 'next' the least after the one given: the words of document 01, for any list in order.
use mathlib.Core.Path.{◌≡◌, refl, sym, ◌∙◌}
use mathlib.Core.Logic.{◌⊎◌, inl, inr}
use mathlib.Core.Bool.{Bool, true, false}
use mathlib.Core.List.Memᴰ
use mathlib.Core.List.{List, [], ◌∷◌, Memᴰ}
use Prim.Native.Nat.{ℕ}
use Rattle.lists.proofs.Bools.{both_ways}
use Rattle.route.proofs.Tests.{either, same-yes, same_of}
use Rattle.route.proofs.Laws.{all_are}
use Rattle.route.proofs.Order.{before-distinct, before-trans, head-least, all-increasing}
use Rattle.route.proofs.Next.{next-found, next_past}
use Rattle.route.specs.Route.{Net, Sound, IsRoute, Before, Increasing}
use Rattle.route.specs.All.{all_from, Finding, route, no_more, no_route, first_of, same_links, next_of}
use Rattle.route.specs.Promises.{Says}

pub first_says : (l : List (List ℕ)) → Increasing l → Says (λ q. Memᴰ q l) (first_of l)
unfolding first_of
first_says [] h = λ q m. Memᴰ.not-nil m
first_says (r ∷ l) h = record { it = Memᴰ.head refl; least = λ q m. head-least r l h q m }

-- in the list, and after r
abbrev After : List (List ℕ) → List ℕ → List ℕ → Type 0
After l r q = Memᴰ q l × Before r q

-- a fact of the same_links routes
says_same : (P Q : List ℕ → Type 0) (a : Finding) → ((q : List ℕ) → P q → Q q) → ((q : List ℕ) → Q q → P q) → Says P a → Says Q a
says_same P Q (route s) to from h = record { it = to s h.it; least = λ q m. h.least q (from q m) }
says_same P Q no_more to from h = λ q m. h q (from q m)
says_same P Q no_route to from h = h

pub next-says : (l : List (List ℕ)) → Increasing l → (r : List ℕ) → Memᴰ r l → Says (After l r) (next_of l r)
next-says [] h r m = absurd (Memᴰ.not-nil m)
next-says (x ∷ l) h r m = go (λ m'. next-says l h.1 r m') (either (same_links x r)) (Memᴰ.cases_cons m)
  where
    -- x is r: what follows is the rest
    tail : x ≡ r → (q : List ℕ) → After (x ∷ l) r q → Memᴰ q l
    tail e q a = pick (Memᴰ.cases_cons a.0)
      where
        pick : (q ≡ x) ⊎ Memᴰ q l → Memᴰ q l
        pick (inl p) = absurd (before-distinct a.1 (sym (p ∙ e)))
        pick (inr m') = m'

    -- r comes later: x is before it
    later : Memᴰ r l → (q : List ℕ) → After (x ∷ l) r q → After l r q
    later m' q a = pick (Memᴰ.cases_cons a.0)
      where
        pick : (q ≡ x) ⊎ Memᴰ q l → After l r q
        pick (inl p) = absurd (before-distinct (before-trans a.1 (rw p (h.0 r m'))) refl)
        pick (inr n) = (n, a.1)

    go : (Memᴰ r l → Says (After l r) (next_of l r)) → (same_links x r ≡ true) ⊎ (same_links x r ≡ false) → (r ≡ x) ⊎ Memᴰ r l
        → Says (After (x ∷ l) r) (next_of (x ∷ l) r)
    go below (inl e) w =
        let p : x ≡ r = same-yes x r e in
        rw (next-found x l r p)
        (says_same (λ q. Memᴰ q l) (After (x ∷ l) r) (first_of l) (λ q n. (Memᴰ.tail n, rw (← p) (h.0 q n))) (tail p) (first_says l h.1))
    go below (inr e) (inl p) = absurd (both_ways (same_of x r (sym p)) e)
    go below (inr e) (inr m') =
        rw (next_past x l r e)
        (says_same (After l r) (After (x ∷ l) r) (next_of l r) (λ q n. (Memᴰ.tail n.0, n.1)) (later m') (below m'))

-- of routes: in the words of document 01
module _ (G : Net) (sound : Sound G) (at : ℕ) (met : ℕ → Bool) where
  pub first-least : Says (λ q. IsRoute G at met q) (first_of (all_from G at met))
  first-least =
      says_same (λ q. Memᴰ q (all_from G at met)) _ (first_of (all_from G at met)) (λ q m. (all_are G sound at met q).0 m)
      (λ q p. (all_are G sound at met q).1 p) (first_says (all_from G at met) (all-increasing G at met))

  pub next-least : (r : List ℕ) → IsRoute G at met r → Says (λ q. IsRoute G at met q × Before r q) (next_of (all_from G at met) r)
  next-least r p =
      says_same (After (all_from G at met) r) _ (next_of (all_from G at met) r) (λ q m. ((all_are G sound at met q).0 m.0, m.1))
      (λ q m. ((all_are G sound at met q).1 m.0, m.1))
      (next-says (all_from G at met) (all-increasing G at met) r ((all_are G sound at met r).1 p))
