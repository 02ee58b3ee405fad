-- How long what is kept and what is listed are, along the walk.
use Prim.Native.Nat.{ℕ, suc, zero, ◌+◌, ◌-◌, ◌*◌, ◌<◌, ◌≤◌}
use mathlib.Core.Path.{◌≡◌, refl, ap, subst, ◌∙◌}
use mathlib.Core.List.{List, [], ◌∷◌, ◌++◌}
use mathlib.Core.Bool.{Bool, true, false}
use native.Mathlib.Omega.{arith}
use native.Mathlib.Nat.{div-add-mod'}
use lib.ListN.{length, get_or, drop, length-append, length-drop}
use lib.Seq.{length-take-le}
use lib.Dec.{ltb, eqb}
use borrow.Author.Tests.{ltb-true, ltb-false}
use Rattle.lists.specs.Refusals.{unless_refused}
use Rattle.lists.specs.Places.{any_below}
use Rattle.lists.proofs.Refusals.{refused}
use Rattle.lists.proofs.Bools.{and_left, both_ways}
use Rattle.buffer.specs.Bytes.{Bytes, word_at, word_bytes}
use Rattle.chart.specs.declared.Nodes.{Nodes}
use Rattle.address.specs.declared.Station.{Station}
use Rattle.chart.specs.Values.{no_chart, has_node}
use Rattle.chart.proofs.Laws.{question-passed}
use Rattle.address_bytes.specs.Wide.{station_in}
use Rattle.chart_read.specs.Fields.{is_form, tag_at, body_at, past_field, node_in, link_in}
use Rattle.chart_read.specs.Reading.{SoFar, nothing, with_node, with_link, with_question, with_body, refusing, body_refusal}
use Rattle.chart_read.proofs.Laws.{with-node, with-link, with-question, node-zero, question-zero, node-bounds, question-bounds, whole, body-zero}
use Rattle.chart_read.proofs.Walking.{held_past}
use Rattle.chart_read.proofs.Fields.{bytes_take, bytes_drop}
use Rattle.chart_mend.specs.Mending.{Seen, next_place, seen_at, each, kept_of, entry_of, kept_bytes, list_bytes}
use Rattle.chart_mend.specs.Promises.{AllSizes, ListFits, EntriesSay}
use Rattle.chart_mend.proofs.Fields.{between, long-between, long-field}
use Rattle.chart_mend.proofs.Walking.{refusal_at, Goes, ends, keeps, drops, goes-all, over, dropped-bytes, dropped-entry, three-or-last}

-- ---- both together

-- from a place on: the list is of whole entries
record Sized (long at : ℕ) (fs : List Seen) : Type 0 where
  both : at + length (each kept_of fs) + length (each entry_of fs) ≤ long + 2
  entries : ℕ
  threes : length (each entry_of fs) ≡ 3 * entries

module _ (bytes : List ℕ) where
  -- one dropped field more: its entry has three bytes, and so has the field, or it is the last
  dropped-sizes : (at n : ℕ) {fs : List Seen} → at < length bytes → Sized (length bytes) (next_place (suc n) bytes at) fs
      → (length bytes ≤ next_place (suc n) bytes at → fs ≡ []) → Sized (length bytes) at (seen_at (suc n) bytes at ∷ fs)
  unfolding each
  dropped-sizes at n {fs} h z last =
      let f = seen_at (suc n) bytes at in
      let k = length-append (kept_of f) (each kept_of fs) in
      let l = length-append (entry_of f) (each entry_of fs) in
      let p = ap (length {A = ℕ}) (dropped-bytes bytes at (suc n) (λ q. omega arith)) in
      let r = ap (length {A = ℕ}) (dropped-entry bytes at (suc n) (λ q. omega arith)) in
      let b : at + length (each kept_of fs) + (3 + length (each entry_of fs)) ≤ length bytes + 2 = by (ltb (next_place (suc n) bytes at) (length bytes)) refl in
      record { both = omega (arith, k, l, p, r, b); entries = z.entries + 1; threes = omega (arith, l, r, z.threes) }
    where
      by : (x : Bool) → ltb (next_place (suc n) bytes at) (length bytes) ≡ x → at + length (each kept_of fs) + (3 + length (each entry_of fs)) ≤ length bytes + 2
      by true e = omega (arith, z.both, three-or-last bytes at (suc n) (ltb-true _ _ e))
      by false e =
          let q = last (ltb-false _ _ e) in
          omega (arith, h, ap (λ (x : List Seen). length (each kept_of x)) q, ap (λ (x : List Seen). length (each entry_of x)) q)

  sizes : {s t : SoFar} {at : ℕ} {fs : List Seen} → Goes bytes s at fs t → at ≤ length bytes → Sized (length bytes) at fs
  unfolding each kept_of entry_of seen_at next_place unless_refused
  sizes (ends h) l = record { both = omega arith; entries = 0; threes = refl }
  sizes (keeps {s} {t} {at} {fs} h e g) l =
      let w = whole (refusing s) bytes at e in
      let z = sizes g w in
      let f = between bytes at (past_field bytes at) in
      record {
        both = omega (arith, z.both, length-append f (each kept_of fs), long-between bytes at (past_field bytes at) (omega arith) w);
        entries = z.entries;
        threes = z.threes;
      }
  sizes (drops {s} {t} {at} n h e o g) l = dropped-sizes at n h (sizes g o.within) (λ q. (over bytes g q).0)

pub all-sizes : AllSizes
unfolding kept_bytes list_bytes
all-sizes bytes =
    let z = sizes bytes (goes-all bytes) (omega arith) in
    record { both = omega (arith, z.both); entries = omega (arith, z.threes); listed = λ l. omega (arith, z.both, z.threes) }

-- ---- a chart that is kept

-- of so many bytes: a node has 6 at least, and a question, whose nodes are kept before it, 9 more
record Weighs (s : SoFar) (n : ℕ) : Type 0 where
  node : 0 < s.chart.nodes.count → 6 ≤ n
  question : s.asked ≡ true → 15 ≤ n

nothing-weighs : Weighs nothing 0
unfolding nothing no_chart
nothing-weighs = record { node = λ h. absurd (omega arith); question = λ h. absurd (both_ways h refl) }

has_some : (ns : Nodes) (x : Station) → has_node ns x ≡ true → 0 < ns.count
unfolding has_node any_below
has_some ns x = by ns.count _
  where
    by : (n : ℕ) (p : ℕ → Bool) → any_below p n ≡ true → 0 < n
    by zero p h = absurd (both_ways h refl)
    by (suc n) p h = omega arith

module _ (bytes : List ℕ) (s : SoFar) (at : ℕ) (h : at < length bytes) (e : refusal_at s bytes at ≡ 0) where
  abbrev tag : ℕ
  tag = tag_at bytes at

  abbrev b : List ℕ
  b = body_at bytes at

  abbrev size : ℕ
  size = length (between bytes at (past_field bytes at))

  size_is : size ≡ 3 + length b
  size_is =
      let w = whole (refusing s) bytes at e in
      let l : length b ≡ word_at bytes (at + 1) = length-take-le (word_at bytes (at + 1)) (drop (at + 3) bytes) (omega (arith, length-drop (at + 3) bytes)) in
      omega (arith, long-field bytes at h w, l)

  zero-body : body_refusal (refusing s) tag b ≡ 0
  zero-body = body-zero (refusing s) bytes at e

  module _ (n : ℕ) (p : Weighs s n) where
    node-weighs : eqb tag 1 ≡ true → Weighs (with_node s (node_in b)) (n + size)
    unfolding with_node
    node-weighs t =
        let l = (node-bounds (refusing s).node b (node-zero (refusing s) tag b zero-body t)).0 in
        record { node = λ k. omega (arith, l, size_is); question = λ a. omega (arith, p.question a) }

    link-weighs : Weighs (with_link s tag (link_in b)) (n + size)
    unfolding with_link
    link-weighs = record { node = λ k. omega (arith, p.node k); question = λ a. omega (arith, p.question a) }

    question-weighs : eqb tag 1 ≡ false → is_form tag ≡ false → Weighs (with_question s (station_in b 0) (station_in b 3)) (n + size)
    unfolding with_question refusing
    question-weighs f g =
        let q = question-bounds (refusing s).question b (question-zero (refusing s) tag b zero-body f g) in
        let r = question-passed s.asked s.chart.nodes (station_in b 0) (station_in b 3) q.1 in
        let k = has_some s.chart.nodes (station_in b 0) (and_left _ _ r.ends) in
        record { node = λ k. omega (arith, p.node k); question = λ a. omega (arith, p.node k, size_is, q.0) }

    field-weighs : Weighs (held_past s bytes at) (n + size)
    field-weighs = by (eqb tag 1) refl (is_form tag) refl
      where
        by : (x : Bool) → eqb tag 1 ≡ x → (y : Bool) → is_form tag ≡ y → Weighs (with_body s tag b) (n + size)
        by true t y u = rw (with-node s tag b t) (node-weighs t)
        by false t true u = rw (with-link s tag b u) link-weighs
        by false t false u = rw (with-question s tag b t u) (question-weighs t u)

module _ (bytes : List ℕ) where
  weighs : {s t : SoFar} {at : ℕ} {fs : List Seen} → Goes bytes s at fs t → (n : ℕ) → Weighs s n → Weighs t (n + length (each kept_of fs))
  unfolding each kept_of seen_at next_place unless_refused
  weighs (ends {s} h) n p = let z : n ≡ n + 0 = omega arith in subst (Weighs s) z p
  weighs (keeps {s} {t} {at} {fs} h e g) n p =
      let f = between bytes at (past_field bytes at) in
      let z : n + length f + length (each kept_of fs) ≡ n + length (f ++ each kept_of fs) = omega (arith, length-append f (each kept_of fs)) in
      subst (Weighs t) z (weighs g (n + length f) (field-weighs bytes s at h e n p))
  weighs (drops k h e o g) n p = weighs g n p

-- so that the list has at most 21,840 entries beside it
pub list-fits : ListFits
unfolding kept_bytes list_bytes
list-fits bytes l a =
    let z = sizes bytes (goes-all bytes) (omega arith) in
    let k = (weighs bytes (goes-all bytes) 0 nothing-weighs).question a in
    omega (arith, z.both, z.threes, k)

-- ---- what is kept of bytes is bytes

bytes-append : (a b : List ℕ) → Bytes a → Bytes b → Bytes (a ++ b)
bytes-append [] b p q i = q i
bytes-append (x ∷ a) b p q zero = p zero
bytes-append (x ∷ a) b p q (suc i) = bytes-append a b (λ j. p (suc j)) q i

module _ (bytes : List ℕ) (all : Bytes bytes) where
  kept-are-bytes : {s t : SoFar} {at : ℕ} {fs : List Seen} → Goes bytes s at fs t → Bytes (each kept_of fs)
  unfolding each kept_of seen_at next_place unless_refused
  kept-are-bytes (ends h) = λ i. omega arith
  kept-are-bytes (keeps {s} {t} {at} {fs} h e g) =
      bytes-append (between bytes at (past_field bytes at)) (each kept_of fs)
      (bytes_take (drop at bytes) (past_field bytes at - at) (bytes_drop bytes at all)) (kept-are-bytes g)
  kept-are-bytes (drops n h e o g) = kept-are-bytes g

  pub bytes-kept : Bytes (kept_bytes bytes)
  unfolding kept_bytes
  bytes-kept = kept-are-bytes (goes-all bytes)

-- ---- an entry

pub entries-say : EntriesSay
unfolding entry_of
entries-say f z =
    let e = refused [] (word_bytes f.place ++ (f.refusal ∷ [])) f.refusal z in
    record {
      place = ap (λ (l : List ℕ). word_at l 0) e ∙ div-add-mod' f.place 256;
      number = ap (λ (l : List ℕ). get_or l 2 0) e;
    }
