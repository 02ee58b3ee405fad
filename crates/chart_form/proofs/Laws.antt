-- Laws of moving: a chart accepted in one form is accepted in the other, and what is then answered.
use Prim.Native.Nat.{ℕ, zero, suc, ◌<◌, ◌≤◌}
use mathlib.Core.Path.{◌≡◌, refl, sym, ap, subst, ◌∙◌}
use mathlib.Core.List.{List}
use mathlib.Core.Bool.{Bool, true, false, cond, ◌&&◌, ◌||◌, true≢false}
use native.Mathlib.Omega.{arith}
use lib.Dec.{leb, eqb}
use lib.ListN.{length}
use borrow.Author.Tests.{eqb-true, eq-eqb, le-leb, not-false}
use Rattle.lists.specs.Refusals.{unless_refused}
use Rattle.lists.proofs.Bools.{and_left, and_right, and_both}
use Rattle.lists.proofs.Places.{any_false}
use Rattle.lists.proofs.Refusals.{pass, or-pass, refused}
use Rattle.lists.proofs.Chains.{or-stops}
use Rattle.std.specs.Prelude.{Result, Ok, Err}
use Rattle.refusal.specs.declared.Fault.{Fault}
use Rattle.refusal.specs.Numbers.{AnswersAt}
use Rattle.refusal.proofs.Laws.{names}
use Rattle.buffer.specs.Writing.{lent_after}
use Rattle.chart.specs.declared.Link.{Link}
use Rattle.chart.specs.declared.Links.{Links}
use Rattle.chart.specs.declared.Chart.{Chart}
use Rattle.chart.specs.Values.{link_at, end_in_range, direction_in_range, link_in_range, ends_at, has_end}
use Rattle.chart_refuse.specs.Refusal.{chart_refusal}
use Rattle.chart_refuse.proofs.Laws.{passed}
use Rattle.chart_refuse.proofs.Accepted.{accepted-exactly}
use Rattle.chart_read.specs.Fields.{is_form}
use Rattle.chart_read.specs.Reading.{read_chart_of}
use Rattle.chart_write.specs.Writing.{longest_chart, chart_bytes, chart_write_refusal, chart_after}
use Rattle.chart_write.proofs.Promises.{chart_short}
use Rattle.chart_form.specs.Moving.{in_form, one_way_at, one_way, moved_bytes, move_refusal, Moved, moved, move_of, moved_after}
use Rattle.chart_form.proofs.Read.{was_read}

-- ---- in another form

-- links none of which is one way
pub both_at : (ls : Links) → one_way ls ≡ false → (i : ℕ) → i < ls.count → (link_at ls i).direction ≡ 0
unfolding one_way one_way_at
both_at ls e i h = eqb-true _ 0 (not-false _ (any_false (one_way_at ls) ls.count i e h))

-- a direction of one form is in range in the other, of the plain one if it is both ways
in-plain-or : (p q z s : Bool) → cond p z (q && s) ≡ true → (z ≡ true → s ≡ true) → s ≡ true
in-plain-or true q z s h f = f h
in-plain-or false true z s h f = h
in-plain-or false false z s h f = absurd (true≢false (sym h))

in_either : (p q z s : Bool) → (p || q) ≡ true → (p ≡ true → z ≡ true) → s ≡ true → cond p z (q && s) ≡ true
in_either true q z s k w t = w refl
in_either false true z s k w t = t
in_either false false z s k w t = k

range-as : (form other : ℕ) (l : Link) → link_in_range other l ≡ true → is_form form ≡ true → (eqb form 2 ≡ true → l.direction ≡ 0) → link_in_range form l ≡ true
unfolding link_in_range direction_in_range is_form
range-as form other l h k w =
    let ends = end_in_range l.a && end_in_range l.b in
    let d = l.direction in
    let small : eqb d 0 ≡ true → leb d 2 ≡ true = λ e. le-leb d 2 (omega (arith, eqb-true d 0 e)) in
    and_both (and_left ends _ h)
    (in_either (eqb form 2) (eqb form 4) (eqb d 0) (leb d 2) k (λ e. eq-eqb d 0 (w e)) (in-plain-or (eqb other 2) (eqb other 4) (eqb d 0) (leb d 2) (and_right ends _ h) small))

pub accepted-as : (form : ℕ) (c : Chart) → chart_refusal c ≡ 0 → is_form form ≡ true → (eqb form 2 ≡ true → one_way c.links ≡ false) → chart_refusal (in_form form c) ≡ 0
unfolding in_form link_at ends_at has_end
accepted-as form c z k w =
    let a = (accepted-exactly c).0 z in
    (accepted-exactly (in_form form c)).1
    (record {
      few_nodes = a.few_nodes;
      few_links = a.few_links;
      short = a.short;
      ranged = a.ranged;
      once = a.once;
      joins = λ i h.
          let j = a.joins i h in
          record {
            ranged = range-as form c.links.form (link_at c.links i) j.ranged k (λ e. both_at c.links (w e) i h);
            a = j.a;
            b = j.b;
            apart = j.apart;
            a_once = j.a_once;
            b_once = j.b_once;
          };
      from_ranged = a.from_ranged;
      to_ranged = a.to_ranged;
      from = a.from;
      to = a.to;
    })

-- the links of a chart that was read are few enough
pub read-few : (bytes : List ℕ) → (read_chart_of bytes).refusal ≡ 0 → {c : Chart} → c ≡ (read_chart_of bytes).chart → c.links.count ≤ 48
read-few bytes z g = subst (λ (x : Chart). x.links.count ≤ 48) (sym g) (passed (read_chart_of bytes).chart (was_read bytes z).accepted).few_links

not-both : (x y : Bool) → (x && y) ≡ false → x ≡ true → y ≡ false
not-both true y h e = h
not-both false y h e = absurd (true≢false (sym e))

-- what is written has at most 1,113 bytes
moved-within : (form : ℕ) → is_form form ≡ true → (bytes : List ℕ) (room : ℕ) → move_refusal form bytes room ≡ 0 → length (moved_bytes form bytes) ≤ longest_chart
unfolding move_refusal moved_bytes
moved-within form known bytes room e =
    let c = (read_chart_of bytes).chart in
    let p = or-pass (read_chart_of bytes).refusal _ e in
    let q = pass 31 (eqb form 2 && one_way c.links) _ p.1 in
    chart_short (in_form form c) (accepted-as form c (was_read bytes p.0).accepted known (not-both (eqb form 2) (one_way c.links) q.0))

pub moved-short : (form : ℕ) → is_form form ≡ true → (bytes : List ℕ) (room : ℕ) → unless_refused (move_refusal form bytes room) (length (moved_bytes form bytes)) 0 ≤ longest_chart
unfolding unless_refused
moved-short form known bytes room = by (move_refusal form bytes room) refl
  where
    by : (n : ℕ) → move_refusal form bytes room ≡ n → unless_refused n (length (moved_bytes form bytes)) 0 ≤ longest_chart
    by zero e = moved-within form known bytes room e
    by (suc n) e = omega arith

-- ---- the answer

moved-told : (x : Result ℕ Fault) (k p n : ℕ) → AnswersAt x k p (unless_refused k n 0) → ◌≡◌ {A = Moved} (moved x) (record { refusal = k; place = p; written = unless_refused k n 0 })
unfolding unless_refused
moved-told (Ok m) k p n h = λ i. record { refusal = sym h.0 i; place = sym h.1.0 i; written = h.1.1 i }
moved-told (Err f) zero p n h = absurd (names.none_zero f.refusal h.0)
moved-told (Err f) (suc k) p n h = λ i. record { refusal = h.0 i; place = h.1 i; written = 0 }

-- what a result's number, place and count say of the answer
pub move-answer : (form : ℕ) (bytes : List ℕ) (room : ℕ) (x : Result ℕ Fault)
    → AnswersAt x (move_of form bytes room).refusal (move_of form bytes room).place (move_of form bytes room).written → moved x ≡ move_of form bytes room
unfolding move_of
move-answer form bytes room x h = moved-told x (move_refusal form bytes room) (read_chart_of bytes).place (length (moved_bytes form bytes)) h

module _ (form : ℕ) (bytes out : List ℕ) where
  abbrev k : ℕ
  k = move_refusal form bytes (length out)

  -- writing the chart d answers the same
  pub record WrittenSame (d : Chart) : Type 0 where
    pub refusal : chart_write_refusal d (length out) ≡ k
    pub size : length (chart_bytes d) ≡ length (moved_bytes form bytes)
    pub after : chart_after d out ≡ moved_after form bytes out

  pub move-refused : {n : ℕ} → n ≡ (read_chart_of bytes).refusal → (n ≡ 0 → ⊥) → n ≡ k
  unfolding move_refusal
  move-refused e h = or-stops _ e h

  -- a refusal leaves the buffer
  pub moved-left : {n : ℕ} → n ≡ k → (n ≡ 0 → ⊥) → out ≡ moved_after form bytes out
  unfolding moved_after
  moved-left {n} e h = sym (ap (λ (j : ℕ). lent_after j (moved_bytes form bytes) out) (sym e) ∙ refused _ out n h)

  -- c is the chart that was read, and b is what the code finds of its links
  module _ (none : (read_chart_of bytes).refusal ≡ 0) {c : Chart} (g : c ≡ (read_chart_of bytes).chart) {b : Bool} (o : b ≡ one_way c.links) where
    asked : {t : Bool} → (eqb form 2 && b) ≡ t → (eqb form 2 && one_way (read_chart_of bytes).chart.links) ≡ t
    asked e = ap (λ (x : Bool). eqb form 2 && x) (sym (o ∙ ap (λ (x : Chart). one_way x.links) g)) ∙ e

    pub move-one-way : (eqb form 2 && b) ≡ true → 32 ≡ k
    unfolding move_refusal
    move-one-way t = rw (none, asked t)

    -- the writer's own answer on the chart d is that
    module _ (known : is_form form ≡ true) (t : (eqb form 2 && b) ≡ false) {d : Chart} (e : d ≡ in_form form c) where
      accepted : chart_refusal d ≡ 0
      accepted =
          ap chart_refusal (e ∙ ap (in_form form) g)
          ∙ accepted-as form (read_chart_of bytes).chart (was_read bytes none).accepted known (not-both (eqb form 2) (one_way (read_chart_of bytes).chart.links) (asked t))

      bytes_same : chart_bytes d ≡ moved_bytes form bytes
      unfolding moved_bytes
      bytes_same = ap chart_bytes (e ∙ ap (in_form form) g)

      refusal-same : chart_write_refusal d (length out) ≡ k
      unfolding chart_write_refusal move_refusal
      refusal-same = rw (none, asked t, ← bytes_same, accepted)

      pub written-same : WrittenSame d
      unfolding chart_after moved_after
      written-same = record { refusal = refusal-same; size = ap length bytes_same; after = λ i. lent_after (refusal-same i) (bytes_same i) out }
