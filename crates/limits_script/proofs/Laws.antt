-- A turn of each loop over a line: what the byte at place i decides, and what is left after it.
use Prim.Native.Nat.{ℕ, ◌+◌, ◌%◌, ◌≤◌, ◌<◌, max}
use mathlib.Core.Path.{◌≡◌, sym, ◌∙◌}
use mathlib.Core.Bool.{true, false}
use mathlib.Core.List.{List}
use native.Mathlib.Nat.{add-zero}
use native.Mathlib.Numerals.{add-one}
use native.Mathlib.Omega.{arith}
use native.Mathlib.Decide.{dec_le}
use borrow.Author.Tests.{eq-eqb, ne_eqb}
use lib.ListN.{length, get_or, set, drop, drop_of_length-le}
use lib.Seq.{drop-cons}
use Rattle.limits_script.specs.Private.{before_feed, line_end, no_digit, longer_of, numbers_from}

-- ---- where a line ends

module _ (text : List ℕ) (i : ℕ) where
  pub end-past : length text ≤ i → line_end text i ≡ i
  unfolding line_end before_feed
  end-past h = rw (drop_of_length-le text h, add-zero)

  module _ (h : i < length text) where
    pub end-here : get_or text i 0 ≡ 10 → line_end text i ≡ i
    unfolding line_end before_feed
    end-here e = rw (drop-cons text i 0, eq-eqb (get_or text i 0) 10 e, add-zero)

    pub end_later : (get_or text i 0 ≡ 10 → ⊥) → line_end text i ≡ line_end text (i + 1)
    unfolding line_end before_feed
    end_later e = rw (drop-cons text i 0, ne_eqb (get_or text i 0) 10 e, add-one) (omega arith)

-- no line feed from a place on: the line ends with the text, or where it begins past it
pub end-max : (text : List ℕ) (at i : ℕ) → (at ≤ length text → i ≤ length text) → length text ≤ i → line_end text at ≡ line_end text i
    → max at (length text) ≡ line_end text at
end-max text at i within past same = go (dec_le (length text) at)
  where
    go : Dec (length text ≤ at) → max at (length text) ≡ line_end text at
    go (yes h) = let e : max at (length text) ≡ at = omega arith in e ∙ sym (end-past text at h)
    go (no h) = let e : max at (length text) ≡ i = omega (arith, within) in e ∙ sym (same ∙ end-past text i past)

-- ---- the numbers of a line

module _ (v : List ℕ) (k : ℕ) (line : List ℕ) (i : ℕ) where
  pub numbers-end : length line ≤ i → numbers_from v k (drop i line) ≡ v
  unfolding numbers_from
  numbers-end h = rw (drop_of_length-le line h)

  module _ (h : i < length line) where
    pub numbers-blank : get_or line i 0 ≡ 32 → numbers_from v k (drop i line) ≡ numbers_from v ((k + 1) % 64) (drop (i + 1) line)
    unfolding numbers_from
    numbers-blank e = rw (drop-cons line i 0, eq-eqb (get_or line i 0) 32 e, add-one i)

    module _ (b : get_or line i 0 ≡ 32 → ⊥) where
      pub numbers-stop : no_digit (get_or line i 0) ≡ true → numbers_from v k (drop i line) ≡ v
      unfolding numbers_from
      numbers-stop e = rw (drop-cons line i 0, ne_eqb (get_or line i 0) 32 b, e)

      pub numbers-digit : no_digit (get_or line i 0) ≡ false
          → numbers_from v k (drop i line) ≡ numbers_from (set v k (longer_of (get_or v k 0) (get_or line i 0))) k (drop (i + 1) line)
      unfolding numbers_from
      numbers-digit e = rw (drop-cons line i 0, ne_eqb (get_or line i 0) 32 b, e, add-one i)
