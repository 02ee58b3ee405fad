-- The promises of mending, each by going along the walk.
use Prim.Native.Nat.{ℕ, suc, zero, ◌+◌, ◌<◌, ◌≤◌}
use mathlib.Core.Path.{◌≡◌, refl, sym, ap, subst, ◌∙◌}
use mathlib.Core.List.{List, [], ◌∷◌, ◌++◌, append_assoc}
use mathlib.Core.Bool.{Bool, true, false}
use native.Mathlib.Omega.{arith}
use lib.ListN.{length, drop, length-append, length-drop, drop_of_length-le}
use Rattle.buffer.specs.Bytes.{word_at}
use Rattle.lists.specs.Refusals.{unless_refused}
use Rattle.chart_read.specs.Fields.{past_field}
use Rattle.chart_read.specs.Reading.{ChartRead, SoFar, refusing, field_refusal, refused_at, at_end, walk, read_chart_of}
use Rattle.chart_read.proofs.Laws.{whole}
use Rattle.chart_read.proofs.Walking.{held_past, turn, walk_end, end-unasked, end-asked}
use Rattle.chart_mend.specs.Mending.{Seen, next_place, seen_at, fields_of, held_of, each, kept_of, entry_of, kept_bytes, list_bytes}
use Rattle.chart_mend.specs.Promises.{all_of, KeptIsAccepted, KeptLacksQuestion, AcceptedIsWhole, TwiceIsOnce, NoneLost, AllPlaced, PlacesAscend, ReadersNumber, KeptSoFarIsTaken}
use Rattle.chart_mend.proofs.Fields.{between, long-between, cut-join, Same, same-refusal, same-held, long-field, moved, moved-past, behind, from_place, same-trans, same_back}
use Rattle.chart_mend.proofs.Walking.{refusal_at, Onward, Goes, ends, keeps, drops, goes-all}

-- ---- the reader over what is kept

-- one turn of the reader at a field that it takes
taken : (k : ℕ) (s : SoFar) (b : List ℕ) (i : ℕ) → i < length b → field_refusal (refusing s) b i ≡ 0
    → walk (suc k) s b i ≡ walk k (held_past s b i) b (past_field b i)
taken k s b i h e = turn k s b i h ∙ rw e

-- a kept field in what is kept: the reader takes it there too
module _ (bytes : List ℕ) (s : SoFar) (at : ℕ) (h : at < length bytes) (e : refusal_at s bytes at ≡ 0) (pre post : List ℕ) where
  abbrev field : List ℕ
  field = between bytes at (past_field bytes at)

  abbrev made : List ℕ
  made = pre ++ (field ++ post)

  ended : past_field bytes at ≤ length bytes
  ended = whole (refusing s) bytes at e

  read-on : (k : ℕ) → walk (suc k) s made (length pre) ≡ walk k (held_past s bytes at) ((pre ++ field) ++ post) (length (pre ++ field))
  read-on k =
      let m : Same made (length pre) bytes at = moved bytes at h ended pre post in
      let p : past_field made (length pre) ≡ length (pre ++ field) = moved-past bytes at h ended pre post in
      let b : length pre < length made = omega (arith, length-append pre (field ++ post), length-append field post, long-field bytes at h ended) in
      taken k s made (length pre) b (same-refusal m (refusing s) ∙ e)
      ∙ (λ i. walk k (same-held m s i) (sym (append_assoc pre field post) i) (p i))

module _ (bytes : List ℕ) where
  reads : {s t : SoFar} {at : ℕ} {fs : List Seen} → Goes bytes s at fs t → (pre : List ℕ) (k : ℕ) → length (each kept_of fs) ≤ k
      → walk k s (pre ++ each kept_of fs) (length pre) ≡ at_end t (length (pre ++ each kept_of fs))
  unfolding each kept_of seen_at next_place unless_refused
  reads (ends {s} h) pre k l = walk_end k s (pre ++ []) (length pre) (omega (arith, length-append pre []))
  reads (keeps {s} {t} {at} {fs} h e g) pre zero l =
      let w = whole (refusing s) bytes at e in
      let f = between bytes at (past_field bytes at) in
      absurd (omega (arith, length-append f (each kept_of fs), long-field bytes at h w))
  reads (keeps {s} {t} {at} {fs} h e g) pre (suc k) l =
      let w = whole (refusing s) bytes at e in
      let f = between bytes at (past_field bytes at) in
      read-on bytes s at h e pre (each kept_of fs) k
      ∙ reads g (pre ++ f) k (omega (arith, length-append f (each kept_of fs), long-field bytes at h w))
      ∙ ap (λ (l : List ℕ). at_end t (length l)) (append_assoc pre f (each kept_of fs))
  reads (drops n h e o g) pre k l = reads g pre k l

-- the reader finds no bad field in what is kept
pub read_kept : (bytes : List ℕ) → read_chart_of (kept_bytes bytes) ≡ at_end (held_of bytes) (length (kept_bytes bytes))
unfolding read_chart_of kept_bytes
read_kept bytes = reads bytes (goes-all bytes) [] (length (each kept_of (fields_of bytes))) (omega arith)

pub kept-is-accepted : KeptIsAccepted
kept-is-accepted bytes e = read_kept bytes ∙ sym (end-asked (held_of bytes) (length (kept_bytes bytes)) e)

pub kept-lacks-question : KeptLacksQuestion
kept-lacks-question bytes e = read_kept bytes ∙ sym (end-unasked (held_of bytes) (length (kept_bytes bytes)) e)

-- ---- all fields together are the input

module _ (bytes : List ℕ) where
  parts : {s t : SoFar} {at : ℕ} {fs : List Seen} → Goes bytes s at fs t → each all_of fs ≡ drop at bytes
  unfolding each seen_at next_place
  parts (ends h) = sym (drop_of_length-le bytes h)
  parts (keeps {s} {t} {at} h e g) =
      ap (λ (l : List ℕ). between bytes at (past_field bytes at) ++ l) (parts g) ∙ cut-join bytes at (past_field bytes at) (omega arith)
  parts (drops {s} {t} {at} n h e o g) =
      ap (λ (l : List ℕ). between bytes at (next_place (suc n) bytes at) ++ l) (parts g) ∙ cut-join bytes at (next_place (suc n) bytes at) (omega (arith, o.on))

pub none-lost : NoneLost
none-lost bytes = parts bytes (goes-all bytes)

-- ---- a chart that the reader takes

-- nothing is dropped from here on
record AllKept (bytes : List ℕ) (at : ℕ) (fs : List Seen) (t : SoFar) : Type 0 where
  kept : each kept_of fs ≡ drop at bytes
  listed : each entry_of fs ≡ []
  asked : t.asked ≡ true

end-zero : (s : SoFar) (long : ℕ) → (at_end s long).refusal ≡ 0 → s.asked ≡ true
end-zero s long = by s.asked refl
  where
    by : (a : Bool) → s.asked ≡ a → (at_end s long).refusal ≡ 0 → s.asked ≡ true
    by true e h = e
    by false e h = absurd (omega (arith, ap (λ (r : ChartRead). r.refusal) (end-unasked s long e), h))

module _ (bytes : List ℕ) where
  all-kept : {s t : SoFar} {at : ℕ} {fs : List Seen} → Goes bytes s at fs t → (k : ℕ) → length bytes ≤ at + k → (walk k s bytes at).refusal ≡ 0
      → AllKept bytes at fs t
  unfolding each kept_of entry_of seen_at next_place unless_refused
  all-kept (ends {s} {at} h) k l z =
      record {
        kept = sym (drop_of_length-le bytes h);
        listed = refl;
        asked = end-zero s (length bytes) (sym (ap (λ (r : ChartRead). r.refusal) (walk_end k s bytes at h)) ∙ z);
      }
  all-kept (keeps h e g) zero l z = absurd (omega arith)
  all-kept (keeps {s} {t} {at} h e g) (suc k) l z =
      let a = all-kept g k (omega arith) (sym (ap (λ (r : ChartRead). r.refusal) (taken k s bytes at h e)) ∙ z) in
      record {
        kept = ap (λ (l : List ℕ). between bytes at (past_field bytes at) ++ l) a.kept ∙ cut-join bytes at (past_field bytes at) (omega arith);
        listed = a.listed;
        asked = a.asked;
      }
  all-kept (drops n h e o g) zero l z = absurd (omega arith)
  all-kept (drops {s} {t} {at} n h e o g) (suc k) l z =
      let q : walk (suc k) s bytes at ≡ refused_at (suc n) at = turn k s bytes at h ∙ rw e in
      absurd (omega (arith, ap (λ (r : ChartRead). r.refusal) q, z))

pub accepted-is-whole : AcceptedIsWhole
unfolding kept_bytes list_bytes read_chart_of
accepted-is-whole bytes z =
    let a = all-kept bytes (goes-all bytes) (length bytes) (omega arith) z in
    record { kept = a.kept; listed = a.listed; asked = a.asked }

pub twice-is-once : TwiceIsOnce
twice-is-once bytes e = accepted-is-whole (kept_bytes bytes) (ap (λ (r : ChartRead). r.refusal) (kept-is-accepted bytes e))

-- ---- each field by itself

-- the empty walk has no field
pub no_field : (before : List Seen) (f : Seen) (after : List Seen) → [] ≡ before ++ (f ∷ after) → ⊥
no_field before f after e = omega (arith, ap (length {A = Seen}) e, length-append before (f ∷ after))

-- a list that begins with a field, taken apart
pub head-is : {x f : Seen} {xs after : List Seen} → x ∷ xs ≡ f ∷ after → x ≡ f
head-is e = cc

pub rest-is : {x f : Seen} {xs after : List Seen} → x ∷ xs ≡ f ∷ after → xs ≡ after
rest-is e = cc

-- where a field begins, from a place on
record PlacedFrom (at : ℕ) (before : List Seen) (f : Seen) : Type 0 where
  place : f.place ≡ at + length (each all_of before)
  some : 0 < length f.bytes

first-placed : (bytes : List ℕ) (at n : ℕ) → Onward bytes at (next_place n bytes at) → PlacedFrom at [] (seen_at n bytes at)
unfolding each seen_at
first-placed bytes at n o =
    let l = long-between bytes at (next_place n bytes at) (omega (arith, o.on)) o.within in
    record { place = omega arith; some = omega (arith, l, o.on) }

later-placed : (bytes : List ℕ) (at n : ℕ) {before : List Seen} {f : Seen} → Onward bytes at (next_place n bytes at) → PlacedFrom (next_place n bytes at) before f
    → PlacedFrom at (seen_at n bytes at ∷ before) f
unfolding each seen_at
later-placed bytes at n {before} o p =
    let l = long-between bytes at (next_place n bytes at) (omega (arith, o.on)) o.within in
    let field = between bytes at (next_place n bytes at) in
    record { place = p.place ∙ omega (arith, l, length-append field (each all_of before)); some = p.some }

-- the field is the first, or stands after it
module _ (bytes : List ℕ) where
  placed_at : (at n : ℕ) {fs : List Seen} (before : List Seen) (f : Seen) (after : List Seen) → Onward bytes at (next_place n bytes at)
      → ((b : List Seen) → fs ≡ b ++ (f ∷ after) → PlacedFrom (next_place n bytes at) b f)
      → seen_at n bytes at ∷ fs ≡ before ++ (f ∷ after) → PlacedFrom at before f
  placed_at at n [] f after o go q = subst (PlacedFrom at []) (head-is q) (first-placed bytes at n o)
  placed_at at n (x ∷ before) f after o go q =
      subst (λ (y : Seen). PlacedFrom at (y ∷ before) f) (head-is q) (later-placed bytes at n o (go before (rest-is q)))

  kept-onward : (s : SoFar) (at : ℕ) → at < length bytes → refusal_at s bytes at ≡ 0 → Onward bytes at (next_place 0 bytes at)
  unfolding next_place
  kept-onward s at h e = record { on = omega arith; within = whole (refusing s) bytes at e }

  placed : {s t : SoFar} {at : ℕ} {fs : List Seen} → Goes bytes s at fs t → (before : List Seen) (f : Seen) (after : List Seen)
      → fs ≡ before ++ (f ∷ after) → PlacedFrom at before f
  unfolding next_place
  placed (ends h) before f after q = absurd (no_field before f after q)
  placed (keeps {s} {t} {at} h e g) before f after q = placed_at at 0 before f after (kept-onward s at h e) (λ b p. placed g b f after p) q
  placed (drops {s} {t} {at} n h e o g) before f after q = placed_at at (suc n) before f after o (λ b p. placed g b f after p) q

pub all_placed : AllPlaced
all_placed bytes before f after q =
    let p = placed bytes (goes-all bytes) before f after q in
    record { place = omega (arith, p.place); some = p.some }

pub each_append : (w : Seen → List ℕ) (xs ys : List Seen) → each w (xs ++ ys) ≡ each w xs ++ each w ys
unfolding each
each_append w [] ys = refl
each_append w (x ∷ xs) ys = ap (λ (l : List ℕ). w x ++ l) (each_append w xs ys) ∙ sym (append_assoc (w x) (each w xs) (each w ys))

pub places-ascend : PlacesAscend
unfolding each
places-ascend bytes before f middle g after q =
    let p = all_placed bytes before f (middle ++ (g ∷ after)) q in
    let r = all_placed bytes (before ++ (f ∷ middle)) g after (q ∙ sym (append_assoc before (f ∷ middle) (g ∷ after))) in
    omega (
      arith,
      p.place,
      p.some,
      r.place,
      ap (length {A = ℕ}) (each_append all_of before (f ∷ middle)),
      length-append (each all_of before) (each all_of (f ∷ middle)),
      length-append f.bytes (each all_of middle),
    )

-- ---- the reader's own number

-- the reader at a field with the rest of the input after it
module _ (bytes : List ℕ) (s : SoFar) (at : ℕ) (h : at < length bytes) (n : ℕ) (e : refusal_at s bytes at ≡ suc n) (pre : List ℕ) where
  refuses : (k : ℕ) → length (drop at bytes) ≤ k → walk k s (pre ++ drop at bytes) (length pre) ≡ refused_at (suc n) (length pre)
  refuses zero l = absurd (omega (arith, length-drop at bytes))
  refuses (suc k) l =
      let m : Same (pre ++ drop at bytes) (length pre) bytes at = same-trans (behind pre (drop at bytes)) (same_back (from_place bytes at (omega arith))) in
      let b : length pre < length (pre ++ drop at bytes) = omega (arith, length-append pre (drop at bytes), length-drop at bytes) in
      let q : field_refusal (refusing s) (pre ++ drop at bytes) (length pre) ≡ suc n = same-refusal m (refusing s) ∙ e in
      turn k s (pre ++ drop at bytes) (length pre) b ∙ rw q

module _ (bytes : List ℕ) where
  -- what is read up to the field, and what the reader then says
  abbrev Refuses : SoFar → List Seen → Seen → Type 0
  Refuses s before f =
      (pre : List ℕ) (k : ℕ) → length (each kept_of before ++ drop f.place bytes) ≤ k
      → walk k s (pre ++ (each kept_of before ++ drop f.place bytes)) (length pre) ≡ refused_at f.refusal (length pre + length (each kept_of before))

  first-refused : (s : SoFar) (at : ℕ) → at < length bytes → (n : ℕ) → refusal_at s bytes at ≡ suc n → Refuses s [] (seen_at (suc n) bytes at)
  unfolding each seen_at
  first-refused s at h n e pre k l =
      let z : length pre ≡ length pre + 0 = omega arith in
      refuses bytes s at h n e pre k l ∙ ap (refused_at (suc n)) z

  after_kept : (s : SoFar) (at : ℕ) (before : List Seen) (f : Seen) → at < length bytes → refusal_at s bytes at ≡ 0
      → Refuses (held_past s bytes at) before f → Refuses s (seen_at 0 bytes at ∷ before) f
  unfolding each kept_of seen_at next_place unless_refused
  after_kept s at before f h e go pre k l = by k l
    where
      field : List ℕ
      field = between bytes at (past_field bytes at)

      post : List ℕ
      post = each kept_of before ++ drop f.place bytes

      joins : (field ++ each kept_of before) ++ drop f.place bytes ≡ field ++ post
      joins = append_assoc field (each kept_of before) (drop f.place bytes)

      long : length field ≡ 3 + word_at bytes (at + 1)
      long = long-field bytes at h (whole (refusing s) bytes at e)

      by : (k : ℕ) → length ((field ++ each kept_of before) ++ drop f.place bytes) ≤ k
          → walk k s (pre ++ ((field ++ each kept_of before) ++ drop f.place bytes)) (length pre)
          ≡ refused_at f.refusal (length pre + length (field ++ each kept_of before))
      by zero l = absurd (omega (arith, ap (length {A = ℕ}) joins, length-append field post, long))
      by (suc k) l =
          let q : length (pre ++ field) + length (each kept_of before) ≡ length pre + length (field ++ each kept_of before) =
          omega (arith, length-append pre field, length-append field (each kept_of before)) in
          ap (λ (x : List ℕ). walk (suc k) s (pre ++ x) (length pre)) joins
          ∙ read-on bytes s at h e pre post k
          ∙ go (pre ++ field) k (omega (arith, ap (length {A = ℕ}) joins, length-append field post, long))
          ∙ ap (refused_at f.refusal) q

  after-dropped : (s : SoFar) (at n : ℕ) (before : List Seen) (f : Seen) → Refuses s before f → Refuses s (seen_at (suc n) bytes at ∷ before) f
  unfolding each kept_of seen_at unless_refused
  after-dropped s at n before f go = go

  pub kept-number : (at : ℕ) (f : Seen) → seen_at 0 bytes at ≡ f → f.refusal ≡ 0
  unfolding seen_at
  kept-number at f p = sym (ap (λ (x : Seen). x.refusal) p)

  refused-by : {s t : SoFar} {at : ℕ} {fs : List Seen} → Goes bytes s at fs t → (before : List Seen) (f : Seen) (after : List Seen)
      → fs ≡ before ++ (f ∷ after) → (f.refusal ≡ 0 → ⊥) → Refuses s before f
  refused-by (ends h) before f after q z = absurd (no_field before f after q)
  refused-by (keeps {s} {t} {at} h e g) [] f after q z = absurd (z (kept-number at f (head-is q)))
  refused-by (keeps {s} {t} {at} h e g) (x ∷ before) f after q z =
      subst (λ (y : Seen). Refuses s (y ∷ before) f) (head-is q) (after_kept s at before f h e (refused-by g before f after (rest-is q) z))
  refused-by (drops {s} {t} {at} n h e o g) [] f after q z = subst (Refuses s []) (head-is q) (first-refused s at h n e)
  refused-by (drops {s} {t} {at} n h e o g) (x ∷ before) f after q z =
      subst (λ (y : Seen). Refuses s (y ∷ before) f) (head-is q) (after-dropped s at n before f (refused-by g before f after (rest-is q) z))

pub readers-number : ReadersNumber
unfolding read_chart_of
readers-number bytes before f after q z =
    let e : 0 + length (each kept_of before) ≡ length (each kept_of before) = omega arith in
    refused-by bytes (goes-all bytes) before f after q z [] (length (each kept_of before ++ drop f.place bytes)) (omega arith)
    ∙ ap (refused_at f.refusal) e

-- ---- what is kept up to a place

module _ (bytes : List ℕ) where
  -- the reader over these fields comes to their end
  abbrev Taken : SoFar → List Seen → Type 0
  Taken s before =
      (pre : List ℕ) (k : ℕ) → length (each kept_of before) ≤ k
      → (u : SoFar) × (walk k s (pre ++ each kept_of before) (length pre) ≡ at_end u (length (pre ++ each kept_of before)))

  none-taken : (s : SoFar) → Taken s []
  unfolding each
  none-taken s pre k l = (s, walk_end k s (pre ++ []) (length pre) (omega (arith, length-append pre [])))

  kept-taken : (s : SoFar) (at : ℕ) (before : List Seen) → at < length bytes → refusal_at s bytes at ≡ 0
      → Taken (held_past s bytes at) before → Taken s (seen_at 0 bytes at ∷ before)
  unfolding each kept_of seen_at next_place unless_refused
  kept-taken s at before h e go pre zero l =
      let f = between bytes at (past_field bytes at) in
      absurd (omega (arith, length-append f (each kept_of before), long-field bytes at h (whole (refusing s) bytes at e)))
  kept-taken s at before h e go pre (suc k) l =
      let f = between bytes at (past_field bytes at) in
      let g = go (pre ++ f) k (omega (arith, length-append f (each kept_of before), long-field bytes at h (whole (refusing s) bytes at e))) in
      (g.0, read-on bytes s at h e pre (each kept_of before) k ∙ g.1 ∙ ap (λ (x : List ℕ). at_end g.0 (length x)) (append_assoc pre f (each kept_of before)))

  dropped-taken : (s : SoFar) (at n : ℕ) (before : List Seen) → Taken s before → Taken s (seen_at (suc n) bytes at ∷ before)
  unfolding each kept_of seen_at unless_refused
  dropped-taken s at n before go = go

  taken-so-far : {s t : SoFar} {at : ℕ} {fs : List Seen} → Goes bytes s at fs t → (before after : List Seen) → fs ≡ before ++ after → Taken s before
  taken-so-far {s} g [] after q = none-taken s
  taken-so-far (ends h) (x ∷ before) after q = absurd (no_field [] x (before ++ after) q)
  taken-so-far (keeps {s} {t} {at} h e g) (x ∷ before) after q =
      subst (λ (y : Seen). Taken s (y ∷ before)) (head-is q) (kept-taken s at before h e (taken-so-far {s = held_past s bytes at} g before after (rest-is q)))
  taken-so-far (drops {s} {t} {at} n h e o g) (x ∷ before) after q =
      subst (λ (y : Seen). Taken s (y ∷ before)) (head-is q) (dropped-taken s at n before (taken-so-far g before after (rest-is q)))

pub kept-so-far-is-taken : KeptSoFarIsTaken
unfolding read_chart_of
kept-so-far-is-taken bytes before after q = taken-so-far bytes (goes-all bytes) before after q [] (length (each kept_of before)) (omega arith)
