-- From one line of a text to the next: none begins between.
use Prim.Native.Nat.{ℕ, zero, suc, ◌+◌, ◌-◌, ◌<◌, ◌≤◌}
use mathlib.Core.Path.{◌≡◌, ap, subst, ◌∙◌}
use mathlib.Core.Bool.{true}
use mathlib.Core.List.{List, [], ◌∷◌}
use native.Mathlib.Omega.{arith}
use native.Mathlib.Decide.{dec_lt, ℕ_discrete}
use borrow.Author.Tests.{eq-eqb, ne_eqb, eqb-true}
use lib.ListN.{length, get_or, drop}
use lib.Seq.{get_or-drop}
use Rattle.limits_script.specs.Private.{before_feed, line_end, line_begins, line_at, numbers_of}

-- no line feed stands before the first
none_before : (l : List ℕ) (k : ℕ) → k < before_feed l → get_or l k 0 ≡ 10 → ⊥
unfolding before_feed
none_before [] k h e = absurd (omega (arith, h))
none_before (b ∷ l) zero h e = let z : 0 < 0 = rw (eq-eqb b 10 e) at h in absurd (omega (arith, z))
none_before (b ∷ l) (suc k) h e = go (none_before l k) (ℕ_discrete b 10)
  where
    go : (k < before_feed l → get_or l k 0 ≡ 10 → ⊥) → Dec (b ≡ 10) → ⊥
    go on (yes f) = let z : suc k < 0 = rw (eq-eqb b 10 f) at h in absurd (omega (arith, z))
    go on (no f) = let z : suc k < suc (before_feed l) = rw (ne_eqb b 10 f) at h in on (omega (arith, z)) e

-- so no line begins between a place and where its line ends
between : (text : List ℕ) (at j : ℕ) → at < j → j ≤ line_end text at → line_begins text j ≡ true → ⊥
unfolding line_end line_begins
between text at zero h k b = absurd (omega (arith, h))
between text at (suc i) h k b =
    let e : at + (i - at) ≡ i = omega (arith, h) in
    none_before (drop at text) (i - at) (omega (arith, h, k)) (get_or-drop at text (i - at) 0 ∙ ap (λ (n : ℕ). get_or text n 0) e ∙ eqb-true (get_or text i 0) 10 b)

module _ (P : ℕ → List ℕ → Type 0) (text : List ℕ) where
  -- P holds of the line at a place
  abbrev pub Answered : ℕ → Type 0
  Answered at = P (get_or (line_at text at) 0 0) (numbers_of (line_at text at))

  -- P holds of each line that begins before a place
  abbrev pub AnsweredBefore : ℕ → Type 0
  AnsweredBefore at = (j : ℕ) → j < at → j < length text → line_begins text j ≡ true → Answered j

  -- with the line at the place, those before the next
  pub one_more : (at : ℕ) → AnsweredBefore at → Answered at → AnsweredBefore (line_end text at + 1)
  one_more at before here j h k b = go (dec_lt j at) (dec_lt at j)
    where
      go : Dec (j < at) → Dec (at < j) → Answered j
      go (yes p) q = before j p k b
      go (no p) (yes q) = absurd (between text at j q (omega (arith, h)) b)
      go (no p) (no q) = subst Answered (omega (arith, p, q)) here
