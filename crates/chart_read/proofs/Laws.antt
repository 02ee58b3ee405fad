-- Laws of the reader's definitions, over plain values: a body by its tag, one field at a place, and what a number of 0 says of them.
use Prim.Native.Nat.{ℕ, ◌+◌, ◌-◌, ◌<◌, ◌≤◌, min}
use mathlib.Core.Path.{◌≡◌, refl, sym, ap, ap₂, ◌∙◌}
use mathlib.Core.List.{List, ◌++◌}
use mathlib.Core.Logic.{◌⊎◌, inl, inr}
use mathlib.Core.Bool.{Bool, true, false, not, cond}
use native.Mathlib.Omega.{arith}
use lib.ListN.{length, get_or, take, drop, replicate, length-drop}
use lib.Seq.{get_or-take, get_or-drop}
use Rattle.std.proofs.lemmas.List.{drop-replicate}
use lib.Dec.{ltb, eqb}
use borrow.Author.Tests.{lt-ltb, le-ltb, ltb-true, ltb-false, eqb-true, eq-eqb, ne_eqb, not-false}
use Rattle.buffer.specs.Bytes.{word_at}
use Rattle.lists.specs.Places.{element_at, firsts, row}
use Rattle.lists.proofs.Places.{firsts-agree}
use Rattle.lists.proofs.Runs.{firsts-take}
use Rattle.lists.proofs.Bools.{or_right, both_ways, no_true}
use Rattle.lists.proofs.Refusals.{pass}
use Rattle.lists.proofs.Chains.{stops, passes}
use Rattle.address.specs.declared.Station.{Station}
use Rattle.address_bytes.specs.Wide.{station_in, address_in}
use Rattle.chart.specs.declared.ChartNode.{ChartNode}
use Rattle.chart.specs.declared.Link.{Link}
use Rattle.chart_read.specs.Fields.{is_form, link_length, tag_at, body_at, past_field, cut_short, bytes_from, node_in, link_in}
use Rattle.chart_read.specs.Reading.{SoFar, with_node, with_link, with_question, with_body, Refusing, node_body_refusal, link_body_refusal, question_body_refusal, body_refusal, field_refusal}
use Rattle.chart_read.specs.Private.{field_end}

-- ---- a part of the bytes

-- a part of a list, byte by byte
pub part : (b : List ℕ) (at n : ℕ) → at + n ≤ length b → firsts (λ k. get_or b (at + k) 0) n ≡ take n (drop at b)
unfolding element_at
part b at n h =
    let e : length (drop at b) ≡ length b - at = length-drop at b in
    firsts-agree (λ k. get_or b (at + k) 0) (element_at 0 (drop at b)) n (λ k l. sym (get_or-drop at b k 0))
    ∙ sym (firsts-take 0 (drop at b) n (omega arith))

-- a row that begins with it
pub label-row : (b : List ℕ) (at n : ℕ) → at + n ≤ length b → take n (drop at b) ++ drop n (replicate 24 0) ≡ row 24 0 (bytes_from b at) n
unfolding row bytes_from
label-row b at n h = ap₂ ◌++◌ (sym (part b at n h)) (drop-replicate n 24 0)

-- ---- by the tag

pub tag-first : {A : Type 0} {b : Bool} (k x : A) → b ≡ true → k ≡ cond b k x
tag-first k x e = rw e

pub tag-later : {A : Type 0} {b : Bool} (k : A) {r x : A} → b ≡ false → r ≡ x → r ≡ cond b k x
tag-later k e h = rw e h

-- the tags of links
module _ (tag : ℕ) where
  pub form-tag : (tag ≡ 2) ⊎ (tag ≡ 4) → is_form tag ≡ true
  unfolding is_form
  form-tag (inl e) = rw (eq-eqb tag 2 e)
  form-tag (inr e) = rw (eq-eqb tag 4 e) (or_right (eqb tag 2))

  pub no-form : ((tag ≡ 2) ⊎ (tag ≡ 4) → ⊥) → is_form tag ≡ false
  unfolding is_form
  no-form h = rw (ne_eqb tag 2 (λ e. h (inl e)), ne_eqb tag 4 (λ e. h (inr e)))

  pub form-no-node : is_form tag ≡ true → eqb tag 1 ≡ false
  unfolding is_form
  form-no-node t = no_true (λ e. both_ways (sym (ap is_form (eqb-true tag 1 e)) ∙ t) refl)

-- the lengths of their bodies
bounded : (d : Bool) → (9 ≤ cond d 10 9) × (cond d 10 9 ≤ 10)
bounded true = (omega arith, omega arith)
bounded false = (omega arith, omega arith)

pub link-length-bounds : (form : ℕ) → (9 ≤ link_length form) × (link_length form ≤ 10)
unfolding link_length
link-length-bounds form = bounded (eqb form 4)

-- what is held after a body of each tag
module _ (s : SoFar) (tag : ℕ) (b : List ℕ) where
  pub with-node : eqb tag 1 ≡ true → with_body s tag b ≡ with_node s (node_in b)
  unfolding with_body
  with-node t = sym (tag-first _ _ t)

  pub with-link : is_form tag ≡ true → with_body s tag b ≡ with_link s tag (link_in b)
  unfolding with_body
  with-link t = sym (tag-later _ (form-no-node tag t) (tag-first _ _ t))

  pub with-question : eqb tag 1 ≡ false → is_form tag ≡ false → with_body s tag b ≡ with_question s (station_in b 0) (station_in b 3)
  unfolding with_body
  with-question f g = sym (tag-later _ f (tag-later _ g refl))

-- the number of a link's body
pub link-number : (r : Refusing) (tag : ℕ) (b : List ℕ) → is_form tag ≡ true → link_body_refusal tag (r.link tag) b ≡ body_refusal r tag b
unfolding body_refusal
link-number r tag b t = tag-later _ (form-no-node tag t) (tag-first _ _ t)

-- what a body's number of 0 says, by its tag
module _ (r : Refusing) (tag : ℕ) (b : List ℕ) (e : body_refusal r tag b ≡ 0) where
  pub node-zero : eqb tag 1 ≡ true → node_body_refusal r.node b ≡ 0
  unfolding body_refusal
  node-zero t = tag-first _ _ t ∙ e

  pub link-zero : is_form tag ≡ true → link_body_refusal tag (r.link tag) b ≡ 0
  link-zero t = link-number r tag b t ∙ e

  asks : eqb tag 1 ≡ false → is_form tag ≡ false → (t : Bool) → eqb tag 3 ≡ t → eqb tag 3 ≡ true
  unfolding body_refusal
  asks f g true t = t
  asks f g false t = absurd (omega (arith, tag-later _ f (tag-later _ g (tag-later _ t refl)) ∙ e))

  pub question-tag : eqb tag 1 ≡ false → is_form tag ≡ false → eqb tag 3 ≡ true
  question-tag f g = asks f g (eqb tag 3) refl

  pub question-zero : eqb tag 1 ≡ false → is_form tag ≡ false → question_body_refusal r.question b ≡ 0
  unfolding body_refusal
  question-zero f g = tag-later _ f (tag-later _ g (tag-first _ _ (question-tag f g))) ∙ e

-- and by its length and its value
pub node-bounds : (refusal : ChartNode → ℕ) (b : List ℕ) → node_body_refusal refusal b ≡ 0 → (3 ≤ length b) × (length b ≤ 27) × (refusal (node_in b) ≡ 0)
unfolding node_body_refusal
node-bounds refusal b e =
    let p = pass 22 (ltb (length b) 3) _ e in
    let q = pass 22 (ltb 27 (length b)) _ p.1 in
    (ltb-false (length b) 3 p.0, ltb-false 27 (length b) q.0, q.1)

pub link-bounds : (form : ℕ) (refusal : Link → ℕ) (b : List ℕ) → link_body_refusal form refusal b ≡ 0 → (length b ≡ link_length form) × (get_or b 8 0 ≤ 1) × (refusal (link_in b) ≡ 0)
unfolding link_body_refusal
link-bounds form refusal b e =
    let p = pass 22 (not (eqb (length b) (link_length form))) _ e in
    let q = pass 23 (ltb 1 (get_or b 8 0)) _ p.1 in
    (eqb-true (length b) (link_length form) (not-false _ p.0), ltb-false 1 (get_or b 8 0) q.0, q.1)

pub question-bounds : (refusal : Station → Station → ℕ) (b : List ℕ) → question_body_refusal refusal b ≡ 0 → (length b ≡ 6) × (refusal (station_in b 0) (station_in b 3) ≡ 0)
unfolding question_body_refusal
question-bounds refusal b e =
    let p = pass 22 (not (eqb (length b) 6)) _ e in
    (eqb-true (length b) 6 (not-false _ p.0), p.1)

-- ---- one field at a place

-- the body as the code has it: from its first byte to the next field
pub body-made : (bytes : List ℕ) (at next : ℕ) → next ≡ past_field bytes at → take (next - (at + 3)) (drop (at + 3) bytes) ≡ body_at bytes at
body-made bytes at next e =
    let k : next - (at + 3) ≡ word_at bytes (at + 1) = omega arith in
    ap (λ (j : ℕ). take j (drop (at + 3) bytes)) k

-- a station and an address that lie in the first n bytes of a body
module _ (n : ℕ) (b : List ℕ) (at : ℕ) where
  pub station-within : at + 3 ≤ n → station_in (take n b) at ≡ station_in b at
  station-within h = rw (get_or-take n b at 0 (omega arith), get_or-take n b (at + 1) 0 (omega arith), get_or-take n b (at + 1 + 1) 0 (omega arith)) refl

  pub address-within : at + 4 ≤ n → address_in (take n b) at ≡ address_in b at
  address-within h =
      rw (get_or-take n b at 0 (omega arith), get_or-take n b (at + 1) 0 (omega arith), get_or-take n b (at + 1 + 1) 0 (omega arith), get_or-take n b (at + 3) 0 (omega arith)) refl

-- where the walk goes on, by whether the field is cut short
module _ (bytes : List ℕ) (at : ℕ) where
  pub end-cut : length bytes < past_field bytes at → length bytes ≡ field_end bytes at
  unfolding field_end
  end-cut h = rw (lt-ltb (length bytes) (past_field bytes at) h)

  pub end_whole : (next : ℕ) → next ≡ past_field bytes at → next ≤ length bytes → next ≡ field_end bytes at
  unfolding field_end
  end_whole next e h = e ∙ tag-later _ (le-ltb (length bytes) (past_field bytes at) (omega arith)) refl

  pub end-least : min (past_field bytes at) (length bytes) ≡ field_end bytes at
  unfolding field_end
  end-least = by (ltb (length bytes) (past_field bytes at)) refl
    where
      by : (t : Bool) → ltb (length bytes) (past_field bytes at) ≡ t → min (past_field bytes at) (length bytes) ≡ cond t (length bytes) (past_field bytes at)
      by true e = omega (arith, ltb-true (length bytes) (past_field bytes at) e)
      by false e = omega (arith, ltb-false (length bytes) (past_field bytes at) e)

module _ (r : Refusing) (bytes : List ℕ) (at : ℕ) where
  pub field_cut : length bytes < past_field bytes at → 21 ≡ field_refusal r bytes at
  unfolding field_refusal
  field_cut h = stops 21 _ (lt-ltb (length bytes) (past_field bytes at) h)

  pub field-whole : (k : ℕ) → past_field bytes at ≤ length bytes → k ≡ body_refusal r (tag_at bytes at) (body_at bytes at) → k ≡ field_refusal r bytes at
  unfolding field_refusal
  field-whole k h e = passes 21 (le-ltb (length bytes) (past_field bytes at) h) e

  -- what its number of 0 says: it is whole, and its body has that number
  module _ (e : field_refusal r bytes at ≡ 0) where
    pub whole : past_field bytes at ≤ length bytes
    unfolding field_refusal
    whole = ltb-false (length bytes) (past_field bytes at) (pass 20 (cut_short bytes at) _ e).0

    pub body-zero : body_refusal r (tag_at bytes at) (body_at bytes at) ≡ 0
    unfolding field_refusal
    body-zero = (pass 20 (cut_short bytes at) _ e).1
