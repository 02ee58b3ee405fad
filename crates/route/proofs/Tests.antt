-- A test holds or fails; two lists of links are compared link by link.
use mathlib.Core.Path.{◌≡◌, refl, subst}
use mathlib.Core.Logic.{◌⊎◌, inl, inr}
use mathlib.Core.Bool.{Bool, true, false}
use mathlib.Core.List.{List, [], ◌∷◌}
use borrow.Author.Tests.{eqb-true, eq-eqb}
use Prim.Native.Nat.{ℕ}
use lib.Dec.{eqb}
use Rattle.lists.proofs.Bools.{and_left, and_right, both_ways}
use Rattle.route.specs.All.{same_links}

pub either : (b : Bool) → (b ≡ true) ⊎ (b ≡ false)
either true = inl refl
either false = inr refl

pub same_refl : (r : List ℕ) → same_links r r ≡ true
unfolding same_links
same_refl [] = refl
same_refl (i ∷ r) = rw (eq-eqb i i refl, same_refl r)

pub same-yes : (r s : List ℕ) → same_links r s ≡ true → r ≡ s
unfolding same_links
same-yes [] [] e = refl
same-yes [] (j ∷ s) e = absurd (both_ways e refl)
same-yes (i ∷ r) [] e = absurd (both_ways e refl)
same-yes (i ∷ r) (j ∷ s) e =
    let p : i ≡ j = eqb-true i j (and_left (eqb i j) (same_links r s) e) in
    let q : r ≡ s = same-yes r s (and_right (eqb i j) (same_links r s) e) in
    cc

pub same_of : (r s : List ℕ) → r ≡ s → same_links r s ≡ true
same_of r s e = subst (λ (k : List ℕ). same_links r k ≡ true) e (same_refl r)
