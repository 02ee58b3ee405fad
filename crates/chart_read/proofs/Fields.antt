-- A tagged field at a place, once over its body: what the reader finds where one was written, and what it finds in any bytes.
use Prim.Native.Nat.{ℕ, suc, ◌+◌, ◌*◌, ◌/◌, ◌%◌, ◌<◌, ◌≤◌}
use mathlib.Core.Path.{◌≡◌, refl, sym, ap, ap₂, ◌∙◌}
use mathlib.Core.List.{List, ◌∷◌, ◌++◌}
use mathlib.Core.Bool.{Bool, true, false}
use native.Mathlib.Nat.{div-add-mod'}
use native.Mathlib.Numerals.{add-one}
use native.Mathlib.Omega.{arith}
use lib.ListN.{length, get_or, take, drop, length-append, length-take, length-drop, get_or-eq_default}
use lib.Seq.{get_or-append-add, get_or-append_seam, drop-append-add, take-append_seam, take-add, drop-cons, drop-drop, get_or-drop, get_or-take, length-take-le}
use lib.Dec.{ltb}
use borrow.Author.Tests.{ltb-false, ltb-true}
use Rattle.buffer.specs.Bytes.{Bytes, word_at, word_bytes}
use Rattle.buffer.proofs.Words.{high-back, low-back}
use Rattle.chart_read.specs.Fields.{tagged, tag_at, body_at, past_field}
use Rattle.chart_read.specs.Reading.{SoFar, with_body, Refusing, body_refusal, field_refusal}
use Rattle.chart_read.proofs.Laws.{field-whole}

-- ---- where a field was written

module _ (pre : List ℕ) (tag : ℕ) (body post : List ℕ) where
  abbrev there : List ℕ
  there = pre ++ (tagged tag body ++ post)

  word-there : word_at there (length pre + 1) ≡ length body
  unfolding tagged
  word-there =
      let e : length pre + 1 + 1 ≡ length pre + 2 = omega arith in
      ap₂ (λ (x y : ℕ). x * 256 + y) (get_or-append-add pre (tagged tag body ++ post) 1 0)
      (ap (λ (k : ℕ). get_or there k 0) e ∙ get_or-append-add pre (tagged tag body ++ post) 2 0)
      ∙ div-add-mod' (length body) 256

  body-there : body_at there (length pre) ≡ body
  unfolding tagged
  body-there =
      ap₂ (λ (k : ℕ) (l : List ℕ). take k l) word-there (drop-append-add pre (tagged tag body ++ post) 3)
      ∙ take-append_seam body post

  tag-there : tag_at there (length pre) ≡ tag
  unfolding tagged
  tag-there = get_or-append_seam pre tag (word_bytes (length body) ++ body ++ post) 0

  length-there : length there ≡ length pre + (3 + length body) + length post
  unfolding tagged
  length-there = omega (arith, length-append pre (tagged tag body ++ post), length-append body post)

  -- its number is that of its body by its tag, and it adds what the body says
  pub refusal-there : (r : Refusing) → field_refusal r there (length pre) ≡ body_refusal r tag body
  refusal-there r =
      sym (field-whole r there (length pre) (body_refusal r tag body) (omega (arith, word-there, length-there)) (sym (ap₂ (body_refusal r) tag-there body-there)))

  pub held-there : (s : SoFar) → with_body s (tag_at there (length pre)) (body_at there (length pre)) ≡ with_body s tag body
  held-there s = ap₂ (with_body s) tag-there body-there

  pub begins-there : length pre < length there
  begins-there = omega (arith, length-there)

  pub past-there : past_field there (length pre) ≡ length (pre ++ tagged tag body)
  unfolding tagged
  past-there = omega (arith, word-there, length-append pre (tagged tag body))

-- ---- in any bytes

-- a list from a place on, its next three bytes written out
pub three-on : (b : List ℕ) (at : ℕ) → at + 3 ≤ length b → drop at b ≡ get_or b at 0 ∷ get_or b (at + 1) 0 ∷ get_or b (at + 1 + 1) 0 ∷ drop (at + 3) b
three-on b at h = rw (drop-cons b at 0 (omega arith), e1, drop-cons b (at + 1) 0 (omega arith), e2, drop-cons b (at + 1 + 1) 0 (omega arith), e3) refl
  where
    e1 : suc at ≡ at + 1
    e1 = sym (add-one at)

    e2 : suc (at + 1) ≡ at + 1 + 1
    e2 = sym (add-one (at + 1))

    e3 : suc (at + 1 + 1) ≡ at + 3
    e3 = omega arith

-- a whole field of bytes stands there as it is written
pub field-there : (b : List ℕ) → Bytes b → (at : ℕ) → past_field b at ≤ length b → take (past_field b at) b ≡ take at b ++ tagged (tag_at b at) (body_at b at)
unfolding tagged
field-there b s at h =
    let w = word_at b (at + 1) in
    let n : length (body_at b at) ≡ w = length-take-le w (drop (at + 3) b) (rw length-drop (omega arith)) in
    let e : at + 3 + w ≡ at + (3 + w) = omega arith in
    ap (λ (k : ℕ). take k b) e
    ∙ take-add at (3 + w) b
    ∙ ap (λ (l : List ℕ). take at b ++ l)
    (take-add 3 w (drop at b)
    ∙ ap₂ (λ (x y : List ℕ). x ++ take w y) (ap (take 3) (three-on b at (omega arith))) (drop-drop 3 at b)
    ∙ (λ i. get_or b at 0 ∷ sym (ap (λ (k : ℕ). k / 256) n ∙ high-back (get_or b (at + 1) 0) (get_or b (at + 1 + 1) 0) (s (at + 1 + 1))) i
    ∷ sym (ap (λ (k : ℕ). k % 256) n ∙ low-back (get_or b (at + 1) 0) (get_or b (at + 1 + 1) 0) (s (at + 1 + 1))) i ∷ body_at b at))

-- a body of bytes
pub bytes_drop : (b : List ℕ) (n : ℕ) → Bytes b → Bytes (drop n b)
bytes_drop b n s i = rw get_or-drop (s (n + i))

pub bytes_take : (b : List ℕ) (n : ℕ) → Bytes b → Bytes (take n b)
bytes_take b n s i = by (ltb i n) refl
  where
    by : (t : Bool) → ltb i n ≡ t → get_or (take n b) i 0 < 256
    by true e = rw (get_or-take n b i 0 (ltb-true i n e)) (s i)
    by false e =
        let h : length (take n b) ≤ i = omega (arith, length-take n b, ltb-false i n e) in
        rw (get_or-eq_default (take n b) 0 {n = i} h) (omega arith)

pub bytes-body : (b : List ℕ) → Bytes b → (at : ℕ) → Bytes (body_at b at)
bytes-body b s at = bytes_take (drop (at + 3) b) (word_at b (at + 1)) (bytes_drop b (at + 3) s)
