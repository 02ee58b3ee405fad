-- A number and its two bytes undo each other, and so do two bytes and their number.
use Prim.Native.Nat.{ℕ, ◌+◌, ◌*◌, ◌/◌, ◌%◌, ◌<◌, ◌≤◌}
use mathlib.Core.Path.{◌≡◌}
use mathlib.Core.List.{List, [], ◌∷◌}
use native.Mathlib.Omega.{arith}
use lib.ListN.{get_or}
use Rattle.buffer.specs.Bytes.{Bytes, word_at, word_bytes}

pub word_back : (x : ℕ) → x / 256 * 256 + x % 256 ≡ x
word_back x = omega arith

pub high-back : (h l : ℕ) → l < 256 → (h * 256 + l) / 256 ≡ h
high-back h l s = omega arith

pub low-back : (h l : ℕ) → l < 256 → (h * 256 + l) % 256 ≡ l
low-back h l s = omega arith

-- the two bytes of a number that was read
module _ (b : List ℕ) (bytes : Bytes b) (at : ℕ) where
  pub word-high : word_at b at / 256 ≡ get_or b at 0
  word-high = high-back (get_or b at 0) (get_or b (at + 1) 0) (bytes (at + 1))

  pub word_low : word_at b at % 256 ≡ get_or b (at + 1) 0
  word_low = low-back (get_or b at 0) (get_or b (at + 1) 0) (bytes (at + 1))

  pub word_fits : word_at b at ≤ 65535
  word_fits =
      let p = bytes at in
      let q = bytes (at + 1) in
      omega arith

-- what `to_be_bytes` gives
pub two-bytes : (w : ℕ) {b : List ℕ} → w < 65536 → b ≡ w / 256 % 256 ∷ w % 256 ∷ [] → b ≡ word_bytes w
two-bytes w h e = let high : w / 256 % 256 ≡ w / 256 = omega arith in rw high at e
