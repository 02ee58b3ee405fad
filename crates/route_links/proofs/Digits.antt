-- Digits of the words that the machine's operations make.
use mathlib.Core.Path.{◌≡◌, refl, sym, ◌∙◌, ap}
use mathlib.Core.Bool.{Bool, true, false, not, ◌||◌, ◌&&◌}
use mathlib.Core.Logic.{◌⊎◌, inl, inr}
use Prim.Native.Nat.{ℕ, zero, suc, ◌+◌, ◌-◌, ◌*◌, ◌/◌, ◌%◌, ◌^◌, ◌<◌, ◌≤◌, max, min}
use native.Mathlib.Omega.{arith}
use native.Mathlib.Nat.{mod-lt, zero-lt-suc, div-one, pow-succ', div-div-eq-div-mul, mod-eq_of_lt, lt_of_le_of_lt}
use borrow.Author.Tests.{eqb-true, eqb-false, ltb-true, ltb-false}
use lib.Bits.{bit_and, bit_or, bit_xor, and_step, or_step, xor_step, and_shr, or_shr, xor_shr, differ, shifted_half, shifted_even, or_lt, xor_lt, and_le_l}
use lib.Count.{count_trailing_zeros, under}
use lib.Dec.{eqb, ltb, eqb-zero-suc, eqb-suc-zero, eqb-suc-suc}
use lib.Pow.{pow_mono}
use Rattle.lists.proofs.Bools.{and_left, both_ways}
use Rattle.route.proofs.Tests.{either}
use Rattle.route_links.specs.Sets.{has}
use Rattle.route_links.specs.Private.{alone}

-- one of two, and not both
abbrev pub one_of : Bool → Bool → Bool
one_of true b = not b
one_of false b = b

two : (x : ℕ) → x % 2 < 2
two x = mod-lt x (zero-lt-suc 1)

odd : (x m : ℕ) → (x * 2 + m) % 2 ≡ m % 2
odd x m = omega arith

odd-or : (x y : ℕ) → eqb (bit_or x y % 2) 1 ≡ (eqb (x % 2) 1 || eqb (y % 2) 1)
odd-or x y = ap (λ (z : ℕ). eqb (z % 2) 1) (or_step x y) ∙ go (bit_or (x / 2) (y / 2)) (x % 2) (y % 2) (two x) (two y)
  where
    go : (z r s : ℕ) → r < 2 → s < 2 → eqb ((z * 2 + max r s) % 2) 1 ≡ (eqb r 1 || eqb s 1)
    go z zero zero h k = rw (odd z 0) refl
    go z zero (suc zero) h k = rw (odd z 1) refl
    go z (suc zero) zero h k = rw (odd z 1) refl
    go z (suc zero) (suc zero) h k = rw (odd z 1) refl
    go z (suc (suc r)) s h k = absurd (omega arith)
    go z zero (suc (suc s)) h k = absurd (omega arith)
    go z (suc zero) (suc (suc s)) h k = absurd (omega arith)

odd-and : (x y : ℕ) → eqb (bit_and x y % 2) 1 ≡ (eqb (x % 2) 1 && eqb (y % 2) 1)
odd-and x y = ap (λ (z : ℕ). eqb (z % 2) 1) (and_step x y) ∙ go (bit_and (x / 2) (y / 2)) (x % 2) (y % 2) (two x) (two y)
  where
    go : (z r s : ℕ) → r < 2 → s < 2 → eqb ((z * 2 + min r s) % 2) 1 ≡ (eqb r 1 && eqb s 1)
    go z zero zero h k = rw (odd z 0) refl
    go z zero (suc zero) h k = rw (odd z 0) refl
    go z (suc zero) zero h k = rw (odd z 0) refl
    go z (suc zero) (suc zero) h k = rw (odd z 1) refl
    go z (suc (suc r)) s h k = absurd (omega arith)
    go z zero (suc (suc s)) h k = absurd (omega arith)
    go z (suc zero) (suc (suc s)) h k = absurd (omega arith)

odd-xor : (x y : ℕ) → eqb (bit_xor x y % 2) 1 ≡ one_of (eqb (x % 2) 1) (eqb (y % 2) 1)
odd-xor x y = ap (λ (z : ℕ). eqb (z % 2) 1) (xor_step x y) ∙ go (bit_xor (x / 2) (y / 2)) (x % 2) (y % 2) (two x) (two y)
  where
    go : (z r s : ℕ) → r < 2 → s < 2 → eqb ((z * 2 + differ r s) % 2) 1 ≡ one_of (eqb r 1) (eqb s 1)
    go z zero zero h k = rw (odd z 0) refl
    go z zero (suc zero) h k = rw (odd z 1) refl
    go z (suc zero) zero h k = rw (odd z 1) refl
    go z (suc zero) (suc zero) h k = rw (odd z 0) refl
    go z (suc (suc r)) s h k = absurd (omega arith)
    go z zero (suc (suc s)) h k = absurd (omega arith)
    go z (suc zero) (suc (suc s)) h k = absurd (omega arith)

-- ---- the digits of two words together

pub has-or : (a b i : ℕ) → has (bit_or a b) i ≡ (has a i || has b i)
unfolding has
has-or a b i = ap (λ (z : ℕ). eqb (z % 2) 1) (or_shr a b i) ∙ odd-or (a / 2 ^ i) (b / 2 ^ i)

pub has-and : (a b i : ℕ) → has (bit_and a b) i ≡ (has a i && has b i)
unfolding has
has-and a b i = ap (λ (z : ℕ). eqb (z % 2) 1) (and_shr a b i) ∙ odd-and (a / 2 ^ i) (b / 2 ^ i)

pub has-xor : (a b i : ℕ) → has (bit_xor a b) i ≡ one_of (has a i) (has b i)
unfolding has
has-xor a b i = ap (λ (z : ℕ). eqb (z % 2) 1) (xor_shr a b i) ∙ odd-xor (a / 2 ^ i) (b / 2 ^ i)

-- those of a that are not in b
pub has-without : (a b i : ℕ) → has (bit_xor a (bit_and a b)) i ≡ (has a i && not (has b i))
has-without a b i = has-xor a (bit_and a b) i ∙ ap (λ s. one_of (has a i) s) (has-and a b i) ∙ go (has a i) (has b i)
  where
    go : (x y : Bool) → one_of x (x && y) ≡ (x && not y)
    go true y = refl
    go false y = refl

pub has_left : (a b i : ℕ) → has a i ≡ true → has (bit_or a b) i ≡ true
has_left a b i e = has-or a b i ∙ rw e refl

pub has_right : (a b i : ℕ) → has b i ≡ true → has (bit_or a b) i ≡ true
has_right a b i e = has-or a b i ∙ go (has a i) (has b i) e
  where
    go : (x y : Bool) → y ≡ true → (x || y) ≡ true
    go true y e = refl
    go false y e = e

pub has_either : (a b i : ℕ) → has (bit_or a b) i ≡ true → (has a i ≡ true) ⊎ (has b i ≡ true)
has_either a b i e = go (has a i) (has b i) (sym (has-or a b i) ∙ e)
  where
    go : (x y : Bool) → (x || y) ≡ true → (x ≡ true) ⊎ (y ≡ true)
    go true y e = inl refl
    go false y e = inr e

-- ---- digit by digit

-- digit i + 1 is digit i of the half
pub has-suc : (w i : ℕ) → has w (suc i) ≡ has (w / 2) i
unfolding has
has-suc w i = ap (λ (z : ℕ). eqb (w / z % 2) 1) (pow-succ' 2 i) ∙ ap (λ (z : ℕ). eqb (z % 2) 1) (sym (div-div-eq-div-mul w 2 (2 ^ i)))

-- digit k + i is digit i of the word shifted by k
pub has-shifted : (k w i : ℕ) → has (w / 2 ^ k) i ≡ has w (k + i)
has-shifted zero w i = let e : zero + i ≡ i = omega arith in ap (λ (z : ℕ). has z i) (div-one w) ∙ ap (has w) (sym e)
has-shifted (suc k) w i =
    let e : suc k + i ≡ suc (k + i) = omega arith in
    ap (λ (z : ℕ). has (w / z) i) (pow-succ' 2 k)
    ∙ ap (λ (z : ℕ). has z i) (sym (div-div-eq-div-mul w 2 (2 ^ k)))
    ∙ has-shifted k (w / 2) i
    ∙ sym (has-suc w (k + i))
    ∙ ap (has w) (sym e)

pub has-low : (w : ℕ) → has w 0 ≡ eqb (w % 2) 1
unfolding has
has-low w = ap (λ (z : ℕ). eqb (z % 2) 1) (div-one w)

pub has-none : (i : ℕ) → has 0 i ≡ false
has-none zero = has-low 0
has-none (suc i) = has-suc 0 i ∙ has-none i

pub has-positive : (w i : ℕ) → has w i ≡ true → 0 < w
has-positive zero i h = absurd (both_ways h (has-none i))
has-positive (suc w) i h = omega arith

has_one : (k i : ℕ) → has (1 * 2 ^ k) i ≡ eqb i k
has_one zero zero = has-low 1
has_one zero (suc i) = has-suc 1 i ∙ has-none i ∙ sym (eqb-suc-zero i)
has_one (suc k) zero = has-low (1 * 2 ^ suc k) ∙ ap (λ (z : ℕ). eqb z 1) (shifted_even 1 k) ∙ sym (eqb-zero-suc k)
has_one (suc k) (suc i) = has-suc (1 * 2 ^ suc k) i ∙ ap (λ (z : ℕ). has z i) (shifted_half 1 k) ∙ has_one k i ∙ sym (eqb-suc-suc i k)

pow_pos : (k : ℕ) → 0 < 2 ^ k
pow_pos zero = omega arith
pow_pos (suc k) = let r : 2 ^ suc k ≡ 2 * 2 ^ k = pow-succ' 2 k in let p = pow_pos k in omega arith

pow-less : (k n : ℕ) → k < n → 2 ^ k < 2 ^ n
pow-less k n h = let q : 2 ^ suc k ≤ 2 ^ n = pow_mono h in let r : 2 ^ suc k ≡ 2 * 2 ^ k = pow-succ' 2 k in let z : 0 < 2 ^ k = pow_pos k in omega arith

half-less : (q p : ℕ) → q < 2 * p → q / 2 < p
half-less q p h = omega arith

-- a word below 2 ^ k has no digit at k or later
pub has-past : (k w i : ℕ) → w < 2 ^ k → k ≤ i → has w i ≡ false
has-past zero w i h l = let z : w ≡ 0 = omega arith in ap (λ (v : ℕ). has v i) z ∙ has-none i
has-past (suc k) w zero h l = absurd (omega arith)
has-past (suc k) w (suc i) h l = has-suc w i ∙ has-past k (w / 2) i (half-less w (2 ^ k) (rw (pow-succ' 2 k) at h)) (omega arith)

pub digit-below : (k w i : ℕ) → w < 2 ^ k → has w i ≡ true → i < k
digit-below k w i h e = go (either (ltb i k))
  where
    go : (ltb i k ≡ true) ⊎ (ltb i k ≡ false) → i < k
    go (inl q) = ltb-true i k q
    go (inr q) = absurd (both_ways e (has-past k w i h (ltb-false i k q)))

-- a word that has no digit at k or later is below 2 ^ k
no-digits : (m w : ℕ) → w < 2 ^ m → ((i : ℕ) → has w i ≡ false) → w ≡ 0
no-digits zero w h none = omega arith
no-digits (suc m) w h none =
    let q : w / 2 ≡ 0 = no-digits m (w / 2) (half-less w (2 ^ m) (rw (pow-succ' 2 m) at h)) (λ i. sym (has-suc w i) ∙ none (suc i)) in
    let e : eqb (w % 2) 1 ≡ false = sym (has-low w) ∙ none 0 in
    let z : ¬ (w % 2 ≡ 1) = eqb-false (w % 2) 1 e in
    omega (arith, two w)

within : (k m w : ℕ) → w < 2 ^ m → ((i : ℕ) → k ≤ i → has w i ≡ false) → w < 2 ^ k
within zero m w h none = let z = no-digits m w h (λ i. none i (omega arith)) in omega arith
within (suc k) m w h none =
    let l : w / 2 < 2 ^ m = omega arith in
    let q : w / 2 < 2 ^ k = within k m (w / 2) l (λ i j. sym (has-suc w i) ∙ none (suc i) (omega arith)) in
    let r : 2 ^ suc k ≡ 2 * 2 ^ k = pow-succ' 2 k in
    omega arith

-- any word is below some power
pub some-power : (w : ℕ) → w < 2 ^ w
some-power zero = omega arith
some-power (suc w) = let r : 2 ^ suc w ≡ 2 * 2 ^ w = pow-succ' 2 w in let h = some-power w in omega arith

pub past-small : (k w : ℕ) → ((i : ℕ) → k ≤ i → has w i ≡ false) → w < 2 ^ k
past-small k w none = within k w w (some-power w) none

-- ---- one digit alone

shifted_one : (k : ℕ) → k < 64 → alone k ≡ 1 * 2 ^ k
shifted_one k h = let p : 2 ^ k < 2 ^ 64 = pow-less k 64 h in let l : 1 * 2 ^ k < 18446744073709551616 = omega arith in mod-eq_of_lt l

pub alone-is : (k : ℕ) → k < 64 → alone k ≡ 2 ^ k
alone-is k h = let e = shifted_one k h in omega arith

pub alone-positive : (k : ℕ) → k < 64 → 0 < alone k
alone-positive k h = let e = shifted_one k h in let p = pow_pos k in omega arith

pub has-alone : (k i : ℕ) → k < 64 → has (alone k) i ≡ eqb i k
has-alone k i h = ap (λ (w : ℕ). has w i) (shifted_one k h) ∙ has_one k i

pub alone-small : (k n : ℕ) → k < n → n ≤ 64 → alone k < 2 ^ n
alone-small k n h l =
    let e : alone k ≡ 1 * 2 ^ k = shifted_one k (omega arith) in
    let p : 2 ^ k < 2 ^ n = pow-less k n h in
    omega arith

pub alone-fits : (k : ℕ) → alone k < 18446744073709551616
alone-fits k = omega arith

-- w without its place k
pub has-less : (w k i : ℕ) → k < 64 → has w k ≡ true → has (bit_xor w (alone k)) i ≡ (has w i && not (eqb i k))
has-less w k i h e = has-xor w (alone k) i ∙ ap (λ b. one_of (has w i) b) (has-alone k i h) ∙ go (either (eqb i k))
  where
    go : (eqb i k ≡ true) ⊎ (eqb i k ≡ false) → one_of (has w i) (eqb i k) ≡ (has w i && not (eqb i k))
    go (inl q) = rw (q, eqb-true i k q, e) refl
    go (inr q) = rw q (same (has w i))
      where
        same : (b : Bool) → one_of b false ≡ (b && true)
        same true = refl
        same false = refl

pub less-was : (w k i : ℕ) → k < 64 → has w k ≡ true → has (bit_xor w (alone k)) i ≡ true → has w i ≡ true
less-was w k i h e q = and_left (has w i) (not (eqb i k)) (sym (has-less w k i h e) ∙ q)

-- ---- what stays below a power

pub or-small : (n a b : ℕ) → a < 2 ^ n → b < 2 ^ n → bit_or a b < 2 ^ n
or-small n a b h k = or_lt n a b h k

pub less-small : (n w k : ℕ) → k < n → n ≤ 64 → w < 2 ^ n → bit_xor w (alone k) < 2 ^ n
less-small n w k h l s = xor_lt n w (alone k) s (alone-small k n h l)

pub without-small : (n a b : ℕ) → a < 2 ^ n → bit_xor a (bit_and a b) < 2 ^ n
without-small n a b h = xor_lt n a (bit_and a b) h (lt_of_le_of_lt (and_le_l a b) h)

-- ---- the lowest digit that is set

pub lowest-under : (d w j : ℕ) → j < count_trailing_zeros d w → has w j ≡ false
unfolding count_trailing_zeros
lowest-under zero w j h = absurd (omega arith)
lowest-under (suc d) w j h = go (w % 2) j refl (λ i l. lowest-under d (w / 2) i l) h
  where
    go : (r j : ℕ) → w % 2 ≡ r → ((i : ℕ) → i < count_trailing_zeros d (w / 2) → has (w / 2) i ≡ false) → j < under r (count_trailing_zeros d (w / 2)) → has w j ≡ false
    go zero zero e ih l = has-low w ∙ ap (λ (z : ℕ). eqb z 1) e
    go zero (suc j) e ih l = has-suc w j ∙ ih j (omega arith)
    go (suc r) j e ih l = absurd (omega arith)

half_pos : (q : ℕ) → 0 < q → q % 2 ≡ 0 → 0 < q / 2
half_pos q h e = omega arith

pub lowest-is : (d w : ℕ) → 0 < w → w < 2 ^ d → has w (count_trailing_zeros d w) ≡ true
unfolding count_trailing_zeros
lowest-is zero w h k = absurd (omega arith)
lowest-is (suc d) w h k = go (w % 2) refl (two w) (λ e. lowest-is d (w / 2) (half_pos w h e) (half-less w (2 ^ d) (rw (pow-succ' 2 d) at k)))
  where
    go : (r : ℕ) → w % 2 ≡ r → w % 2 < 2 → (w % 2 ≡ 0 → has (w / 2) (count_trailing_zeros d (w / 2)) ≡ true) → has w (under r (count_trailing_zeros d (w / 2))) ≡ true
    go zero e l ih = has-suc w (count_trailing_zeros d (w / 2)) ∙ ih e
    go (suc zero) e l ih = has-low w ∙ ap (λ (z : ℕ). eqb z 1) e
    go (suc (suc r)) e l ih = absurd (omega arith)

pub some-digit : (w : ℕ) → 0 < w → (i : ℕ) × (has w i ≡ true)
some-digit w h = (count_trailing_zeros w w, lowest-is w w h (some-power w))

-- ---- the digits below k

low_half : (k : ℕ) → (2 ^ suc k - 1) / 2 ≡ 2 ^ k - 1
low_half k = let r : 2 ^ suc k ≡ 2 * 2 ^ k = pow-succ' 2 k in let p = pow_pos k in omega arith

low-odd : (k : ℕ) → (2 ^ suc k - 1) % 2 ≡ 1
low-odd k = let r : 2 ^ suc k ≡ 2 * 2 ^ k = pow-succ' 2 k in let p = pow_pos k in omega arith

pub low-has : (k j : ℕ) → j < k → has (2 ^ k - 1) j ≡ true
low-has zero j h = absurd (omega arith)
low-has (suc k) zero h = has-low (2 ^ suc k - 1) ∙ ap (λ (z : ℕ). eqb z 1) (low-odd k)
low-has (suc k) (suc j) h = has-suc (2 ^ suc k - 1) j ∙ ap (λ (z : ℕ). has z j) (low_half k) ∙ low-has k j (omega arith)

pub low-not : (k j : ℕ) → k ≤ j → has (2 ^ k - 1) j ≡ false
low-not zero j h = has-none j
low-not (suc k) zero h = absurd (omega arith)
low-not (suc k) (suc j) h = has-suc (2 ^ suc k - 1) j ∙ ap (λ (z : ℕ). has z j) (low_half k) ∙ low-not k j (omega arith)

-- ---- words with one digit

-- a word that has no digit in common with the one before it has no two digits
less-half : (w : ℕ) → 0 < w → w % 2 ≡ 0 → (w - 1) / 2 ≡ w / 2 - 1
less-half w h e = omega arith

same_half : (w : ℕ) → w % 2 ≡ 1 → (w - 1) / 2 ≡ w / 2
same_half w e = omega arith

odd-one : (w j : ℕ) → w % 2 ≡ 1 → bit_and w (w - 1) ≡ 0 → has w (suc j) ≡ true → ⊥
odd-one w j e z h =
    both_ways
    (has-and w (w - 1) (suc j) ∙ rw h (has-suc (w - 1) j ∙ ap (λ (v : ℕ). has v j) (same_half w e) ∙ sym (has-suc w j) ∙ h))
    (ap (λ (v : ℕ). has v (suc j)) z ∙ has-none (suc j))

pub one-digit : (w i j : ℕ) → bit_and w (w - 1) ≡ 0 → has w i ≡ true → has w j ≡ true → i ≡ j
one-digit w zero zero z h k = refl
one-digit w zero (suc j) z h k = absurd (odd-one w j (eqb-true (w % 2) 1 (sym (has-low w) ∙ h)) z k)
one-digit w (suc i) zero z h k = absurd (odd-one w i (eqb-true (w % 2) 1 (sym (has-low w) ∙ k)) z h)
one-digit w (suc i) (suc j) z h k = go (w % 2) refl (two w) (λ q. one-digit (w / 2) i j q (sym (has-suc w i) ∙ h) (sym (has-suc w j) ∙ k))
  where
    go : (r : ℕ) → w % 2 ≡ r → w % 2 < 2 → (bit_and (w / 2) (w / 2 - 1) ≡ 0 → i ≡ j) → suc i ≡ suc j
    go zero e l ih =
        let p : 0 < w = has-positive w (suc i) h in
        let s : bit_and w (w - 1) ≡ bit_and (w / 2) ((w - 1) / 2) * 2 + min (w % 2) ((w - 1) % 2) = and_step w (w - 1) in
        let q : bit_and (w / 2) ((w - 1) / 2) ≡ 0 = omega arith in
        ap suc (ih (ap (bit_and (w / 2)) (sym (less-half w p e)) ∙ q))
    go (suc zero) e l ih = absurd (odd-one w i e z h)
    go (suc (suc r)) e l ih = absurd (omega arith)
