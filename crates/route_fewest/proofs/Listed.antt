-- The first of the shortest of a list in order.
use mathlib.Core.Path.{◌≡◌, refl}
use mathlib.Core.Logic.{◌⊎◌, inl, inr}
use mathlib.Core.Bool.{Bool, true, false, cond}
use mathlib.Core.Option.{Option, none, some}
use mathlib.Core.List.Memᴰ
use mathlib.Core.List.{List, [], ◌∷◌, Memᴰ}
use Prim.Native.Nat.{ℕ, ◌<◌, ◌≤◌}
use native.Mathlib.Omega.{arith}
use lib.Dec.{ltb}
use lib.ListN.{length}
use borrow.Author.Tests.{ltb-true, ltb-false}
use Rattle.route.specs.Route.{Before, Increasing}
use Rattle.route_fewest.specs.Fewest.{or_fewer, fewest_of}

pub record FewestIn (l : List (List ℕ)) (r : List ℕ) : Type 0 where
  pub it : Memᴰ r l
  pub fewest : (q : List ℕ) → Memᴰ q l → length r ≤ length q
  pub first : (q : List ℕ) → Memᴰ q l → length q ≡ length r → (q ≡ r) ⊎ Before r q

-- what is said of a list: the first of its shortest, or that nothing is in it
abbrev pub SaysFewest : List (List ℕ) → Option (List ℕ) → Type 0
SaysFewest l none = (q : List ℕ) → Memᴰ q l → ⊥
SaysFewest l (some r) = FewestIn l r

len-eq : (q r : List ℕ) → q ≡ r → length q ≡ length r
len-eq q r e = rw e

module _ (r : List ℕ) (l : List (List ℕ)) (h : Increasing (r ∷ l)) where
  alone : ((q : List ℕ) → Memᴰ q l → ⊥) → FewestIn (r ∷ l) r
  alone n = record { it = Memᴰ.head refl; fewest = λ q m. a q (Memᴰ.cases_cons m); first = λ q m e. b q (Memᴰ.cases_cons m) }
    where
      a : (q : List ℕ) → (q ≡ r) ⊎ Memᴰ q l → length r ≤ length q
      a q (inl e) = omega (arith, len-eq q r e)
      a q (inr m) = absurd (n q m)

      b : (q : List ℕ) → (q ≡ r) ⊎ Memᴰ q l → (q ≡ r) ⊎ Before r q
      b q (inl e) = inl e
      b q (inr m) = absurd (n q m)

  -- a later one has fewer links
  later : (s : List ℕ) → FewestIn l s → length s < length r → FewestIn (r ∷ l) s
  later s f t = record { it = Memᴰ.tail f.it; fewest = λ q m. a q (Memᴰ.cases_cons m); first = λ q m e. b q (Memᴰ.cases_cons m) e }
    where
      a : (q : List ℕ) → (q ≡ r) ⊎ Memᴰ q l → length s ≤ length q
      a q (inl e) = omega (arith, len-eq q r e)
      a q (inr m) = f.fewest q m

      b : (q : List ℕ) → (q ≡ r) ⊎ Memᴰ q l → length q ≡ length s → (q ≡ s) ⊎ Before s q
      b q (inl e) z = absurd (omega (arith, len-eq q r e))
      b q (inr m) z = f.first q m z

  -- none has
  earlier : (s : List ℕ) → FewestIn l s → length r ≤ length s → FewestIn (r ∷ l) r
  earlier s f t = record { it = Memᴰ.head refl; fewest = λ q m. a q (Memᴰ.cases_cons m); first = λ q m e. b q (Memᴰ.cases_cons m) }
    where
      a : (q : List ℕ) → (q ≡ r) ⊎ Memᴰ q l → length r ≤ length q
      a q (inl e) = omega (arith, len-eq q r e)
      a q (inr m) = let k = f.fewest q m in omega arith

      b : (q : List ℕ) → (q ≡ r) ⊎ Memᴰ q l → (q ≡ r) ⊎ Before r q
      b q (inl e) = inl e
      b q (inr m) = inr (h.0 q m)

  chosen : (s : List ℕ) → FewestIn l s → (b : Bool) → ltb (length s) (length r) ≡ b → FewestIn (r ∷ l) (cond b s r)
  chosen s f true e = later s f (ltb-true (length s) (length r) e)
  chosen s f false e = let k = ltb-false (length s) (length r) e in earlier s f (omega arith)

  more : (o : Option (List ℕ)) → SaysFewest l o → FewestIn (r ∷ l) (or_fewer r o)
  unfolding or_fewer
  more none n = alone n
  more (some s) f = chosen s f (ltb (length s) (length r)) refl

pub says-fewest : (l : List (List ℕ)) → Increasing l → SaysFewest l (fewest_of l)
unfolding fewest_of
says-fewest [] h = λ q m. Memᴰ.not-nil m
says-fewest (r ∷ l) h = more r l h (fewest_of l) (says-fewest l h.1)
