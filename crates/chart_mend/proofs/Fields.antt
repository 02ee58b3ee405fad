-- A part cut out of some bytes; and a field that stands in two places: the reader finds the same in both.
use Prim.Native.Nat.{ℕ, ◌+◌, ◌-◌, ◌*◌, ◌<◌, ◌≤◌}
use mathlib.Core.Path.{◌≡◌, refl, sym, ap, ap₂, ◌∙◌}
use mathlib.Core.List.{List, ◌++◌}
use native.Mathlib.Omega.{arith}
use lib.ListN.{length, get_or, take, drop, length-append, length-drop, take-append-drop, get_or-append}
use lib.Seq.{get_or-append-add, drop-append-add, drop-append-le, drop-drop, take_at, length-take-le}
use lib.Dec.{ltb}
use borrow.Author.Tests.{ltb-true, lt-ltb, le-ltb}
use Rattle.buffer.specs.Bytes.{word_at}
use Rattle.lists.specs.Refusals.{refuse}
use Rattle.lists.proofs.Bools.{both-same}
use Rattle.chart_read.specs.Fields.{tag_at, body_at, past_field, cut_short}
use Rattle.chart_read.specs.Reading.{SoFar, with_body, Refusing, body_refusal, field_refusal}

-- ---- the bytes from a place up to another

abbrev pub between : List ℕ → ℕ → ℕ → List ℕ
between b at next = take (next - at) (drop at b)

pub long-between : (b : List ℕ) (at next : ℕ) → at ≤ next → next ≤ length b → at + length (between b at next) ≡ next
long-between b at next h l = omega (arith, length-take-le (next - at) (drop at b) (omega (arith, length-drop at b)))

-- what is cut out stands before what follows it
pub cut-join : (b : List ℕ) (at next : ℕ) → at ≤ next → between b at next ++ drop next b ≡ drop at b
cut-join b at next h =
    let e : at + (next - at) ≡ next = omega arith in
    ap (λ (l : List ℕ). between b at next ++ l) (sym (drop-drop (next - at) at b ∙ ap (λ (k : ℕ). drop k b) e))
    ∙ take-append-drop (next - at) (drop at b)

-- ---- one field in two places

pub record Same (b : List ℕ) (i : ℕ) (c : List ℕ) (j : ℕ) : Type 0 where
  pub tag : tag_at b i ≡ tag_at c j
  pub word : word_at b (i + 1) ≡ word_at c (j + 1)
  pub body : body_at b i ≡ body_at c j
  pub cut : cut_short b i ≡ cut_short c j

module _ {b : List ℕ} {i : ℕ} {c : List ℕ} {j : ℕ} (e : Same b i c j) where
  pub same-refusal : (r : Refusing) → field_refusal r b i ≡ field_refusal r c j
  unfolding field_refusal
  same-refusal r = λ t. refuse 21 (e.cut t) (body_refusal r (e.tag t) (e.body t))

  pub same-held : (s : SoFar) → with_body s (tag_at b i) (body_at b i) ≡ with_body s (tag_at c j) (body_at c j)
  same-held s = ap₂ (with_body s) e.tag e.body

  pub same_back : Same c j b i
  same_back = record { tag = sym e.tag; word = sym e.word; body = sym e.body; cut = sym e.cut }

  pub same-trans : {d : List ℕ} {k : ℕ} → Same c j d k → Same b i d k
  same-trans f = record { tag = e.tag ∙ f.tag; word = e.word ∙ f.word; body = e.body ∙ f.body; cut = e.cut ∙ f.cut }

-- two comparisons that hold together
tests_same : (a b c d : ℕ) → (a < b → c < d) → (c < d → a < b) → ltb a b ≡ ltb c d
tests_same a b c d f g =
    both-same (ltb a b) (ltb c d) (λ h. lt-ltb c d (f (ltb-true a b h))) (λ h. lt-ltb a b (g (ltb-true c d h)))

-- behind any bytes
module _ (pre rest : List ℕ) where
  at-seam : (n i : ℕ) → n ≡ length pre + i → get_or (pre ++ rest) n 0 ≡ get_or rest i 0
  at-seam n i e = rw e (get_or-append-add pre rest i 0)

  word-behind : word_at (pre ++ rest) (length pre + 1) ≡ word_at rest 1
  word-behind = ap₂ (λ (x y : ℕ). x * 256 + y) (at-seam (length pre + 1) 1 refl) (at-seam (length pre + 1 + 1) 2 (omega arith))

  pub behind : Same (pre ++ rest) (length pre) rest 0
  behind =
      record {
        tag = at-seam (length pre) 0 (omega arith);
        word = word-behind;
        body = ap₂ (λ (k : ℕ) (l : List ℕ). take k l) word-behind (drop-append-add pre rest 3);
        cut =
            let w = word-behind in
            let l = length-append pre rest in
            tests_same (length (pre ++ rest)) (past_field (pre ++ rest) (length pre)) (length rest) (past_field rest 0) (λ h. omega arith) (λ h. omega arith);
      }

-- what stands from a place on
pub from_place : (b : List ℕ) (i : ℕ) → i ≤ length b → Same b i (drop i b) 0
from_place b i h =
    let l : length (take i b) ≡ i = length-take-le i b h in
    rw (l, take-append-drop) at (behind (take i b) (drop i b))

-- a whole field in front of any bytes
module _ (f p q : List ℕ) (l : length f ≡ 3 + word_at (f ++ q) 1) where
  front_at : (i : ℕ) → i < 3 → get_or (f ++ p) i 0 ≡ get_or (f ++ q) i 0
  front_at i h = get_or-append f p 0 i (omega arith) ∙ sym (get_or-append f q 0 i (omega arith))

  word-front : word_at (f ++ p) 1 ≡ word_at (f ++ q) 1
  word-front = ap₂ (λ (x y : ℕ). x * 256 + y) (front_at 1 (omega arith)) (front_at 2 (omega arith))

  body-front : (g : List ℕ) → take (word_at (f ++ q) 1) (drop 3 (f ++ g)) ≡ drop 3 f
  body-front g =
      ap (take (word_at (f ++ q) 1)) (drop-append-le 3 f g (omega arith))
      ∙ take_at (drop 3 f) g (word_at (f ++ q) 1) (omega (arith, length-drop 3 f))

  pub in-front : Same (f ++ p) 0 (f ++ q) 0
  in-front =
      record {
        tag = front_at 0 (omega arith);
        word = word-front;
        body = ap (λ (k : ℕ). take k (drop 3 (f ++ p))) word-front ∙ body-front p ∙ sym (body-front q);
        cut =
            let w = word-front in
            le-ltb (length (f ++ p)) (past_field (f ++ p) 0) (omega (arith, length-append f p))
            ∙ sym (le-ltb (length (f ++ q)) (past_field (f ++ q) 0) (omega (arith, length-append f q)));
      }

-- a whole field of some bytes, taken out and put between any others
module _ (bytes : List ℕ) (at : ℕ) (begins : at < length bytes) (ends : past_field bytes at ≤ length bytes) where
  abbrev field : List ℕ
  field = between bytes at (past_field bytes at)

  abbrev later : List ℕ
  later = drop (past_field bytes at - at) (drop at bytes)

  pub long-field : length field ≡ 3 + word_at bytes (at + 1)
  long-field =
      let l = length-drop at bytes in
      length-take-le (past_field bytes at - at) (drop at bytes) (omega arith) ∙ omega arith

  field-first : field ++ later ≡ drop at bytes
  field-first = take-append-drop (past_field bytes at - at) (drop at bytes)

  pub moved : (pre post : List ℕ) → Same (pre ++ (field ++ post)) (length pre) bytes at
  moved pre post =
      let f = from_place bytes at (omega arith) in
      let e : word_at (field ++ later) 1 ≡ word_at bytes (at + 1) = ap (λ (l : List ℕ). word_at l 1) field-first ∙ sym f.word in
      let g : Same (field ++ post) 0 (field ++ later) 0 = in-front field post later (long-field ∙ ap (λ (k : ℕ). 3 + k) (sym e)) in
      same-trans (behind pre (field ++ post)) (same-trans (rw field-first at g) (same_back f))

  -- where it then ends
  pub moved-past : (pre post : List ℕ) → past_field (pre ++ (field ++ post)) (length pre) ≡ length (pre ++ field)
  moved-past pre post = omega (arith, (moved pre post).word, length-append pre field, long-field)
