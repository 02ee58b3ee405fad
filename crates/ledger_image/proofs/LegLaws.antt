-- Laws of a leg's bytes: which are no standing's, how many they are, and how the code puts them together.
use Prim.Native.Nat.{ℕ, ◌≤◌, ◌<◌}
use mathlib.Core.Path.{◌≡◌, refl}
use mathlib.Core.Bool.{true, false, not}
use mathlib.Core.List.{List, [], ◌∷◌}
use lib.Dec.{eqb}
use borrow.Author.Tests.{eq-eqb, ne_eqb, lt-ltb, le-ltb}
use lib.ListN.{length, get_or}
use Rattle.buffer.specs.Bytes.{word_bytes}
use Rattle.ledger.specs.declared.Standing.{Standing}
use Rattle.ledger.specs.declared.Standing.TheVariants.{Open, Acknowledged, Refused, Undeliverable, TimedOut, Waiting}
use Rattle.ledger.specs.declared.Leg.{Leg}
use Rattle.address_bytes.specs.Wide.{address_bytes}
use Rattle.ledger_image.specs.Leg.{standing_bytes, stray_standing, leg_bytes}

-- the tests of a standing's bytes, in the code's order
module _ (kind set code : ℕ) where
  pub kind-stray : 5 < kind → true ≡ stray_standing kind set code
  unfolding stray_standing
  kind-stray h = rw (lt-ltb 5 kind h)

  module _ (known : kind ≤ 5) where
    pub refusal-known : kind ≡ 2 → false ≡ stray_standing kind set code
    unfolding stray_standing
    refusal-known e = rw (le-ltb 5 kind known, eq-eqb kind 2 e)

    pub set-stray : (kind ≡ 2 → ⊥) → (set ≡ 0 → ⊥) → true ≡ stray_standing kind set code
    unfolding stray_standing
    set-stray ne some = rw (le-ltb 5 kind known, ne_eqb kind 2 ne, ne_eqb set 0 some)

    pub code-tells : (kind ≡ 2 → ⊥) → set ≡ 0 → not (eqb code 0) ≡ stray_standing kind set code
    unfolding stray_standing
    code-tells ne none = rw (le-ltb 5 kind known, ne_eqb kind 2 ne, eq-eqb set 0 none)

-- the three bytes of a standing, one by one
three : (s : Standing) → standing_bytes s ≡ get_or (standing_bytes s) 0 0 ∷ get_or (standing_bytes s) 1 0 ∷ get_or (standing_bytes s) 2 0 ∷ []
unfolding standing_bytes
three Open = refl
three Acknowledged = refl
three (Refused set code) = refl
three Undeliverable = refl
three TimedOut = refl
three Waiting = refl

module _ (g : Leg) where
  pub length-leg : length (leg_bytes g) ≡ 15
  unfolding leg_bytes
  length-leg = rw (three g.standing)

  pub leg-made : {from to n t s : List ℕ} → from ≡ address_bytes g.source → to ≡ address_bytes g.destination → n ≡ word_bytes g.seq.0 → t ≡ word_bytes g.ticks
      → s ≡ standing_bytes g.standing
      → ◌≡◌ {A = List ℕ} (get_or from 0 0 ∷ get_or from 1 0 ∷ get_or from 2 0 ∷ get_or from 3 0
      ∷ get_or to 0 0 ∷ get_or to 1 0 ∷ get_or to 2 0 ∷ get_or to 3 0
      ∷ get_or n 0 0 ∷ get_or n 1 0 ∷ get_or t 0 0 ∷ get_or t 1 0
      ∷ get_or s 0 0 ∷ get_or s 1 0 ∷ get_or s 2 0 ∷ []) (leg_bytes g)
  unfolding leg_bytes
  leg-made p q h k e = rw (p, q, h, k, e, ← three g.standing)
