-- 21 ends the walk, and 31 is given exactly where no question is kept.
use Prim.Native.Nat.{ℕ, suc, ◌+◌, ◌-◌}
use mathlib.Core.Path.{◌≡◌, refl, sym, ap, ◌∙◌}
use mathlib.Core.List.{List, [], ◌∷◌, ◌++◌}
use mathlib.Core.Bool.{Bool, true, false, not, ◌&&◌, ◌||◌}
use native.Mathlib.Omega.{arith}
use lib.ListN.{length, get_or, drop}
use lib.Seq.{get_or-take, get_or-drop}
use lib.Dec.{ltb, eqb}
use borrow.Author.Tests.{eqb-true, ne_eqb}
use Rattle.lists.specs.Refusals.{refuse}
use Rattle.lists.proofs.Bools.{or_assoc, or-none, or_right, no_true, both_ways}
use Rattle.chart_read.specs.Fields.{is_form, tag_at, body_at, past_field}
use Rattle.chart_read.specs.Reading.{SoFar, nothing, with_node, with_link, with_question, with_body, refusing}
use Rattle.chart_read.proofs.Laws.{with-node, with-link, with-question, question-tag, body-zero}
use Rattle.chart_read.proofs.Walking.{held_past}
use Rattle.chart_mend.specs.Mending.{Seen, next_place, seen_at, fields_of, held_of, kept_bytes, list_bytes, mend_refusal}
use Rattle.chart_mend.specs.Promises.{TwentyOneEnds, is_question, question_kept, ThirtyOneIsNoQuestion}
use Rattle.chart_mend.proofs.Fields.{between}
use Rattle.chart_mend.proofs.Walking.{refusal_at, Goes, ends, keeps, drops, goes-all, over}
use Rattle.chart_mend.proofs.Promises.{no_field, head-is, rest-is, kept-number}
use Rattle.chart_mend.proofs.Mending.{no_question}

-- ---- 21

place-21 : (bytes : List ℕ) (at : ℕ) → next_place 21 bytes at ≡ length bytes
unfolding next_place
place-21 bytes at = refl

number_of : (k : ℕ) (bytes : List ℕ) (at : ℕ) → (seen_at k bytes at).refusal ≡ k
unfolding seen_at
number_of k bytes at = refl

module _ (bytes : List ℕ) where
  ends_at : {s t : SoFar} {at : ℕ} {fs : List Seen} → Goes bytes s at fs t → (before : List Seen) (f : Seen) (after : List Seen)
      → fs ≡ before ++ (f ∷ after) → f.refusal ≡ 21 → after ≡ []
  ends_at (ends h) before f after q z = absurd (no_field before f after q)
  ends_at (keeps {s} {t} {at} h e g) [] f after q z = absurd (omega (arith, kept-number bytes at f (head-is q), z))
  ends_at (keeps h e g) (x ∷ before) f after q z = ends_at g before f after (rest-is q) z
  ends_at (drops {s} {t} {at} n h e o g) [] f after q z =
      let k : suc n ≡ 21 = sym (number_of (suc n) bytes at) ∙ ap (λ (x : Seen). x.refusal) (head-is q) ∙ z in
      let p : next_place (suc n) bytes at ≡ length bytes = ap (λ (j : ℕ). next_place j bytes at) k ∙ place-21 bytes at in
      sym (rest-is q) ∙ (over bytes g (omega arith)).0
  ends_at (drops n h e o g) (x ∷ before) f after q z = ends_at g before f after (rest-is q) z

pub twenty-one-ends : TwentyOneEnds
twenty-one-ends bytes before f after q z = ends_at bytes (goes-all bytes) before f after q z

-- ---- 31

-- a node and a link have other tags than the question
form-no-question : (tag : ℕ) → is_form tag ≡ true → eqb tag 3 ≡ false
unfolding is_form
form-no-question tag t = no_true (λ e. both_ways (sym (ap is_form (eqb-true tag 3 e)) ∙ t) refl)

node-no-question : (tag : ℕ) → eqb tag 1 ≡ true → eqb tag 3 ≡ false
node-no-question tag t = ap (λ (k : ℕ). eqb k 3) (eqb-true tag 1 t)

-- the question is held after a field that is kept if it was before, or if the field is the question
asked-past : (s : SoFar) (bytes : List ℕ) (at : ℕ) → refusal_at s bytes at ≡ 0 → (held_past s bytes at).asked ≡ (s.asked || eqb (tag_at bytes at) 3)
unfolding with_node with_link with_question
asked-past s bytes at e = by (eqb (tag_at bytes at) 1) refl (is_form (tag_at bytes at)) refl
  where
    tag : ℕ
    tag = tag_at bytes at

    b : List ℕ
    b = body_at bytes at

    as_before : eqb tag 3 ≡ false → s.asked ≡ (s.asked || eqb tag 3)
    as_before z = sym (ap (λ (x : Bool). s.asked || x) z ∙ or-none s.asked)

    by : (x : Bool) → eqb tag 1 ≡ x → (y : Bool) → is_form tag ≡ y → (with_body s tag b).asked ≡ (s.asked || eqb tag 3)
    by true p y q = ap (λ (x : SoFar). x.asked) (with-node s tag b p) ∙ as_before (node-no-question tag p)
    by false p true q = ap (λ (x : SoFar). x.asked) (with-link s tag b q) ∙ as_before (form-no-question tag q)
    by false p false q =
        ap (λ (x : SoFar). x.asked) (with-question s tag b p q)
        ∙ sym (ap (λ (x : Bool). s.asked || x) (question-tag (refusing s) tag b (body-zero (refusing s) bytes at e) p q) ∙ or_right s.asked)

tag-kept : (bytes : List ℕ) (at : ℕ) → tag_at (between bytes at (past_field bytes at)) 0 ≡ tag_at bytes at
tag-kept bytes at =
    let z : at + 0 ≡ at = omega arith in
    get_or-take (past_field bytes at - at) (drop at bytes) 0 0 (omega arith) ∙ get_or-drop at bytes 0 0 ∙ ap (λ (k : ℕ). get_or bytes k 0) z

module _ (bytes : List ℕ) where
  asked_is : {s t : SoFar} {at : ℕ} {fs : List Seen} → Goes bytes s at fs t → t.asked ≡ (s.asked || question_kept fs)
  unfolding question_kept is_question seen_at next_place
  asked_is (ends {s} h) = sym (or-none s.asked)
  asked_is (keeps {s} {t} {at} {fs} h e g) =
      asked_is g ∙ ap (λ (x : Bool). x || question_kept fs) (asked-past s bytes at e) ∙ or_assoc s.asked (eqb (tag_at bytes at) 3) (question_kept fs)
      ∙ ap (λ (k : ℕ). s.asked || (eqb k 3 || question_kept fs)) (sym (tag-kept bytes at))
  asked_is (drops {s} {t} {at} {fs} n h e o g) =
      asked_is g
      ∙ ap (λ (x : Bool). s.asked || ((x && eqb (tag_at (seen_at (suc n) bytes at).bytes 0) 3) || question_kept fs)) (sym (ne_eqb (suc n) 0 (λ q. omega arith)))

question-held : (bytes : List ℕ) → (held_of bytes).asked ≡ question_kept (fields_of bytes)
unfolding nothing
question-held bytes = asked_is bytes (goes-all bytes)

-- the chain gives 31 only by its test
only-31 : (l a x y : Bool) → refuse 33 l (refuse 31 (not a) (refuse 10 x (refuse 10 y 0))) ≡ 31 → a ≡ false
only-31 true a x y h = absurd (omega arith)
only-31 false false x y h = refl
only-31 false true true y h = absurd (omega arith)
only-31 false true false true h = absurd (omega arith)
only-31 false true false false h = absurd (omega arith)

pub thirty-one-is-no-question : ThirtyOneIsNoQuestion
unfolding mend_refusal
thirty-one-is-no-question bytes room list_room l =
    record {
      given = λ q. sym (no_question bytes room list_room l (question-held bytes ∙ q));
      only = λ q.
          sym (question-held bytes)
          ∙ only-31 (ltb 65535 (length bytes)) (held_of bytes).asked (ltb room (length (kept_bytes bytes))) (ltb list_room (length (list_bytes bytes))) q;
    }
