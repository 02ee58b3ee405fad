-- The call, at each return: the test that held decides the number, and what becomes of the buffers.
use Prim.Native.Nat.{ℕ, zero, suc, ◌<◌, ◌≤◌}
use mathlib.Core.Path.{◌≡◌, refl, sym, ap, ◌∙◌}
use mathlib.Core.List.{List}
use Rattle.std.specs.Prelude.{Result, Ok, Err}
use mathlib.Core.Bool.{true, false, not, ◌&&◌}
use native.Mathlib.Omega.{arith}
use lib.ListN.{length, replicate, take, length-replicate}
use lib.Seq.{sets, length-sets}
use lib.Dec.{ltb, leb}
use borrow.Author.Tests.{lt-ltb, le-ltb, ltb-false, leb-true, not-false}
use Rattle.lists.specs.Refusals.{unless_refused}
use Rattle.lists.proofs.Refusals.{pass, taken, refused}
use Rattle.lists.proofs.Chains.{stops, passes}
use Rattle.lists.proofs.Stores.{sets-front, taken-front}
use Rattle.lists.proofs.Bools.{and_left, and_right, not-no, not_yes}
use Rattle.buffer.specs.Writing.{lent_after}
use Rattle.refusal.specs.declared.Refusal.{Refusal}
use Rattle.refusal.specs.Numbers.{number, Answers}
use Rattle.refusal.proofs.Laws.{names}
use Rattle.chart_mend.specs.declared.MendedSizes.{MendedSizes}
use Rattle.chart_mend.specs.Mending.{held_of, kept_bytes, list_bytes, mend_refusal, Mended, mended, mend_of, sizes_of}
use Rattle.chart_mend.specs.Promises.{WholeMends}

-- ---- the number

module _ (input : List ℕ) (room list_room : ℕ) where
  pub too_long : 65535 < length input → 33 ≡ mend_refusal input room list_room
  unfolding mend_refusal
  too_long h = stops 33 _ (lt-ltb 65535 (length input) h)

  module _ (h : length input ≤ 65535) where
    pub no_question : (held_of input).asked ≡ false → 31 ≡ mend_refusal input room list_room
    unfolding mend_refusal
    no_question a = passes 33 (le-ltb 65535 (length input) h) (stops 31 _ (not-no a))

    module _ (a : (held_of input).asked ≡ true) where
      pub no_room : room < length (kept_bytes input) → 10 ≡ mend_refusal input room list_room
      unfolding mend_refusal
      no_room k = passes 33 (le-ltb 65535 (length input) h) (passes 31 (not_yes a) (stops 10 _ (lt-ltb room (length (kept_bytes input)) k)))

      module _ (k : length (kept_bytes input) ≤ room) where
        pub no-list-room : list_room < length (list_bytes input) → 10 ≡ mend_refusal input room list_room
        unfolding mend_refusal
        no-list-room l =
            passes 33 (le-ltb 65535 (length input) h)
            (passes 31 (not_yes a) (passes 10 (le-ltb room (length (kept_bytes input)) k) (stops 10 _ (lt-ltb list_room (length (list_bytes input)) l))))

        no-refusal : length (list_bytes input) ≤ list_room → 0 ≡ mend_refusal input room list_room
        unfolding mend_refusal
        no-refusal l =
            passes 33 (le-ltb 65535 (length input) h)
            (passes 31 (not_yes a) (passes 10 (le-ltb room (length (kept_bytes input)) k) (passes 10 (le-ltb list_room (length (list_bytes input)) l) refl)))

-- what a number of 0 says
module _ (input : List ℕ) (room list_room : ℕ) where
  pub record Passed : Type 0 where
    pub short : length input ≤ 65535
    pub asked : (held_of input).asked ≡ true
    pub chart-fits : length (kept_bytes input) ≤ room
    pub list-fits : length (list_bytes input) ≤ list_room

  pub passed : mend_refusal input room list_room ≡ 0 → Passed
  unfolding mend_refusal
  passed e =
      let p = pass 32 (ltb 65535 (length input)) _ e in
      let q = pass 30 (not (held_of input).asked) _ p.1 in
      let r = pass 9 (ltb room (length (kept_bytes input))) _ q.1 in
      let t = pass 9 (ltb list_room (length (list_bytes input))) _ r.1 in
      record {
        short = ltb-false _ _ p.0;
        asked = not-false _ q.0;
        chart-fits = ltb-false _ _ r.0;
        list-fits = ltb-false _ _ t.0;
      }

-- ---- the answer where nothing is refused

module _ (input : List ℕ) (room list_room : ℕ) where
  taken-answer : {m n : ℕ} → m ≡ length (kept_bytes input) → n ≡ length (list_bytes input) → 0 ≡ mend_refusal input room list_room
      → record { refusal = 0; kept = m; listed = n } ≡ mend_of input room list_room
  unfolding mend_of
  taken-answer p q e = λ i. record { refusal = e i; kept = (p ∙ sym (taken _ 0 (sym e))) i; listed = (q ∙ sym (taken _ 0 (sym e))) i }

-- ---- what a result's number and sizes say of the answer

mended-told : (x : Result MendedSizes Refusal) (k m n : ℕ) → Answers x k (record { kept = unless_refused k m 0; listed = unless_refused k n 0 })
    → ◌≡◌ {A = Mended} (mended x) (record { refusal = k; kept = unless_refused k m 0; listed = unless_refused k n 0 })
unfolding unless_refused
mended-told (Ok s) k m n h = λ i. record { refusal = sym h.0 i; kept = (h.1 i).kept; listed = (h.1 i).listed }
mended-told (Err r) zero m n h = absurd (names.none_zero r h)
mended-told (Err r) (suc k) m n h = λ i. record { refusal = h i; kept = 0; listed = 0 }

pub mend-answer : (input : List ℕ) (room list_room : ℕ) (x : Result MendedSizes Refusal)
    → Answers x (mend_of input room list_room).refusal (sizes_of (mend_of input room list_room)) → mended x ≡ mend_of input room list_room
unfolding mend_of
mend-answer input room list_room x h = mended-told x (mend_refusal input room list_room) (length (kept_bytes input)) (length (list_bytes input)) h

-- ---- the answer and both buffers

-- what was laid aside from the front is taken out again
module _ (m : ℕ) (vs aside : List ℕ) (e : aside ≡ sets (replicate m 0) 0 vs) where
  pub long-aside : length aside ≡ m
  long-aside = ap (length {A = ℕ}) e ∙ simp (length-sets, length-replicate)

  pub laid-aside : (n : ℕ) → n ≡ length vs → n ≤ m → take n aside ≡ vs
  laid-aside n k h = ap (take n) e ∙ taken-front (replicate m 0) vs n k (rw length-replicate h)

-- both results are short enough to be laid aside
pub both-short : (x y m n : ℕ) → (leb x m && leb y n) ≡ true → (x ≤ m) × (y ≤ n)
both-short x y m n h = (leb-true x m (and_left (leb x m) (leb y n) h), leb-true y n (and_right (leb x m) (leb y n) h))

module _ (input out list : List ℕ) where
  abbrev refusal : ℕ
  refusal = mend_refusal input (length out) (length list)

  -- what the call comes to
  abbrev pub Comes : Result MendedSizes Refusal → List ℕ → List ℕ → Type 0
  Comes r out' list' =
      Answers r (mend_of input (length out) (length list)).refusal (sizes_of (mend_of input (length out) (length list)))
      × ((out' ≡ lent_after refusal (kept_bytes input) out) × (list' ≡ lent_after refusal (list_bytes input) list))

  refused-buffer : (r : Refusal) → number r ≡ refusal → (vs l : List ℕ) → l ≡ lent_after refusal vs l
  refused-buffer r e vs l = sym (refused _ l refusal (λ q. names.none_zero r (e ∙ q)))

  pub comes-refused : (r : Refusal) → number r ≡ refusal → Comes (Err r) out list
  unfolding mend_of
  comes-refused r e = (e, (refused-buffer r e (kept_bytes input) out, refused-buffer r e (list_bytes input) list))

  taken-buffer : 0 ≡ refusal → (vs l : List ℕ) → length vs ≤ length l → sets l 0 vs ≡ lent_after refusal vs l
  taken-buffer e vs l h = sets-front l vs h ∙ sym (taken _ l (sym e))

  pub comes-taken : length input ≤ 65535 → (held_of input).asked ≡ true → (m n : ℕ) → m ≡ length (kept_bytes input) → n ≡ length (list_bytes input)
      → m ≤ length out → n ≤ length list → (out' list' : List ℕ) → out' ≡ sets out 0 (kept_bytes input) → list' ≡ sets list 0 (list_bytes input)
      → Comes (Ok (record { kept = m; listed = n })) out' list'
  comes-taken h a m n k l p q out' list' x y =
      let e : 0 ≡ refusal = no-refusal input (length out) (length list) h a (omega arith) (omega arith) in
      let t = taken-answer input (length out) (length list) k l e in (
        (sym (ap (λ (x : Mended). x.refusal) t), ap sizes_of t),
        (x ∙ taken-buffer e (kept_bytes input) out (omega arith), y ∙ taken-buffer e (list_bytes input) list (omega arith)),
      )

-- ---- a whole chart

pub whole-mends : WholeMends
whole-mends bytes room list_room w l r =
    let k : length bytes ≡ length (kept_bytes bytes) = sym (ap (length {A = ℕ}) w.kept) in
    let m : 0 ≡ length (list_bytes bytes) = sym (ap (length {A = ℕ}) w.listed) in
    sym (taken-answer bytes room list_room k m (no-refusal bytes room list_room l w.asked (omega arith) (omega arith)))
