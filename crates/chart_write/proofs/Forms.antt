-- What the bytes of a link say of it: all, if its form is one of the two and it goes both ways in the plain one.
use Prim.Native.Nat.{ℕ, zero, suc, ◌<◌}
use mathlib.Core.Path.{◌≡◌, refl, sym, ap, ◌∙◌}
use mathlib.Core.Bool.{Bool, true, false, cond, not, ◌&&◌, ◌||◌, true≢false}
use native.Mathlib.Omega.{arith}
use lib.Dec.{eqb, ltb, leb}
use borrow.Author.Tests.{eqb-true, ltb-false}
use Rattle.lists.specs.Places.{joined}
use Rattle.lists.proofs.Bools.{and_right}
use Rattle.lists.proofs.Places.{joined-none}
use Rattle.chart.specs.declared.Link.{Link}
use Rattle.chart.specs.declared.Links.{Links}
use Rattle.chart.specs.Values.{link_at, end_in_range, direction_in_range, link_in_range}
use Rattle.chart_read.specs.Fields.{is_form}
use Rattle.chart_read.specs.Reading.{mixes}
use Rattle.chart_write.specs.Writing.{link_field}
use Rattle.chart_write.specs.Promises.{Sayable}

pub record Said (form : ℕ) (l : Link) : Type 0 where
  pub known : is_form form ≡ true
  pub ways : eqb form 4 ≡ false → l.direction ≡ 0

abbrev pub AllSaid : Links → Type 0
AllSaid ls = (i : ℕ) → i < ls.count → Said ls.form (link_at ls i)

-- so are the links in range
by_tests : (p q z s : Bool) → cond p z (q && s) ≡ true → ((p || q) ≡ true) × (q ≡ false → z ≡ true)
by_tests true q z s h = (refl, λ e. h)
by_tests false true z s h = (refl, λ e. absurd (true≢false e))
by_tests false false z s h = absurd (true≢false (sym h))

pub in-range-said : (form : ℕ) (l : Link) → link_in_range form l ≡ true → Said form l
unfolding link_in_range direction_in_range is_form
in-range-said form l h =
    let t = by_tests (eqb form 2) (eqb form 4) (eqb l.direction 0) (leb l.direction 2) (and_right (end_in_range l.a && end_in_range l.b) _ h) in
    record { known = t.0; ways = λ e. eqb-true l.direction 0 (t.1 e) }

-- and those of a sayable chart
plain-else : (p q : Bool) → (p || q) ≡ true → q ≡ false → p ≡ true
plain-else true q h e = refl
plain-else false q h e = absurd (true≢false (sym h ∙ e))

pub all_said : (ls : Links) → Sayable ls → AllSaid ls
unfolding is_form
all_said ls s i h = record { known = s.form; ways = λ e. s.ways i h (eqb-true ls.form 2 (plain-else (eqb ls.form 2) (eqb ls.form 4) s.form e)) }

-- links that mix with none of another form: there are none, or they have this one
unmixed-by : (n form other : ℕ) (p q : Bool) → ltb 0 n ≡ p → eqb other form ≡ q → (p && not q) ≡ false → (n ≡ 0 → ⊥) → other ≡ form
unmixed-by n form other true true e f h z = eqb-true other form f
unmixed-by n form other true false e f h z = absurd (true≢false h)
unmixed-by n form other false q e f h z = absurd (z (omega (arith, ltb-false 0 n e)))

pub unmixed : (ls : Links) (form : ℕ) → mixes ls form ≡ false → (ls.count ≡ 0 → ⊥) → ls.form ≡ form
unfolding mixes
unmixed ls form h z = unmixed-by ls.count form ls.form (ltb 0 ls.count) (eqb ls.form form) refl refl h z

-- their bytes in that form
pub form-bytes : (ls : Links) (form : ℕ) → ((ls.count ≡ 0 → ⊥) → ls.form ≡ form)
    → joined (link_field ls.form) (link_at ls) ls.count ≡ joined (link_field form) (link_at ls) ls.count
form-bytes ls form h = go ls.count refl
  where
    go : (n : ℕ) → ls.count ≡ n → joined (link_field ls.form) (link_at ls) n ≡ joined (link_field form) (link_at ls) n
    go zero e = joined-none (link_field ls.form) (link_at ls) ∙ sym (joined-none (link_field form) (link_at ls))
    go (suc n) e = ap (λ (x : ℕ). joined (link_field x) (link_at ls) (suc n)) (h (λ z. absurd (let w : suc n ≡ 0 = sym e ∙ z in omega arith)))
