-- The theorems of the choice: next-route, answers, choice-numbers, past-count.
use Prim.Native.Nat.{ℕ, ◌<◌, ◌≤◌}
use mathlib.Core.Path.{◌≡◌, refl, sym, ap, ◌∙◌}
use mathlib.Core.Bool.{Bool, true, false, not, ◌&&◌, cond}
use native.Mathlib.Omega.{arith}
use lib.Dec.{eqb, leb}
use borrow.Author.Tests.{eq-eqb, ne_eqb, eqb-false, not-true}
use Rattle.lists.specs.Places.{any_below, first_below}
use Rattle.lists.specs.Refusals.{among}
use Rattle.lists.proofs.Bools.{and_left, and_right, and_both, not-no, no-not, both_ways}
use Rattle.lists.proofs.Places.{any_found, any_false, any-agree, first-agree, first_found, FirstAt}
use Rattle.address.specs.declared.Port.{Port}
use Rattle.address.specs.declared.Address.{Address}
use Rattle.address.specs.Address.{station_of, station_in_range, same_station}
use Rattle.table.specs.declared.Table.{Table}
use Rattle.table.specs.declared.Entry.{Entry}
use Rattle.table.specs.Choice.{Choice, Local, Out, Refused}
use Rattle.table.specs.Table.{most_entries, entry_at, is_own, qualifies, qualifies_at, has_route, out_port, out_choice, entry_in_range, stray_entry, table_in_range, call_in_range, choose_of, choice_refusal, choice_local}
use Rattle.table.specs.Promises.{Taken, Qualifies, First, NextRoute, NextRoutes, ChoiceAnswers, EveryChoice, choose_refusals, ChooseNumbers, Alike, PastCount, EntriesPastCount}
use Rattle.table.proofs.Laws.{out-found, out_none, chosen-50, chosen-51, chosen-here, chosen-out, choice_by}

-- ---- the next route

module _ (t : Table) (d : Address) (arrival : Port) where
  -- an entry that passes the test, over places; and back
  placed : (k : ℕ) → k < t.count → qualifies_at t d arrival k ≡ true → Qualifies t d arrival k
  unfolding qualifies_at qualifies
  placed k l h =
      let e = entry_at t k in
      let p = and_left (e.on && not (eqb e.port.0 arrival.0)) _ h in
      record {
        counts = l;
        on = and_left e.on _ p;
        matches = and_right (e.on && not (eqb e.port.0 arrival.0)) _ h;
        other_port = eqb-false _ _ (not-true _ (and_right e.on _ p));
      }

  tested : (k : ℕ) → Qualifies t d arrival k → qualifies_at t d arrival k ≡ true
  unfolding qualifies_at qualifies
  tested k q = and_both (and_both q.on (not-no (ne_eqb _ _ q.other_port))) q.matches

  -- the first place that passes the test is the first entry that qualifies; and back
  first-placed : (k : ℕ) → FirstAt (qualifies_at t d arrival) t.count k → First t d arrival k
  first-placed k f = record {
    qualifies = placed k f.below f.passes;
    none_before = λ j l q. both_ways (tested j q) (any_false (qualifies_at t d arrival) k j f.none_before l);
  }

  none-placed : (n : ℕ) → ((j : ℕ) → j < n → Qualifies t d arrival j → ⊥) → n ≤ t.count → any_below (qualifies_at t d arrival) n ≡ false
  none-placed n h l = go (any_below (qualifies_at t d arrival) n) refl
    where
      go : (b : Bool) → any_below (qualifies_at t d arrival) n ≡ b → any_below (qualifies_at t d arrival) n ≡ false
      go false e = e
      go true e =
          let f = first_found (qualifies_at t d arrival) n e in
          absurd (h (first_below (qualifies_at t d arrival) n) f.below (placed _ (omega arith) f.passes))

  first-tested : (k : ℕ) → First t d arrival k → FirstAt (qualifies_at t d arrival) t.count k
  first-tested k f = record {
    below = f.qualifies.counts;
    passes = tested k f.qualifies;
    none_before = none-placed k f.none_before (omega (arith, f.qualifies.counts));
  }

-- a way out is no refusal, and one way out no other
out-refused : {p : Port} {n : ℕ} → Out p ≡ Refused n → ⊥
out-refused h = let z : ◌≡◌ {A = ℕ} 0 1 = cc in omega arith

out-same : {p q : Port} → Out p ≡ Out q → p ≡ q
out-same h = cc

local_same : {p q : Port} → Local p ≡ Local q → p ≡ q
local_same h = cc

module _ (t : Table) (d : Address) (arrival : Port) (taken : Taken t d arrival) (other : is_own t d ≡ false) where
  choice-out : choose_of t d arrival ≡ out_choice t d arrival
  choice-out = chosen-out t d arrival taken.table taken.call other

  choice-first : (k : ℕ) → First t d arrival k → choose_of t d arrival ≡ Out (entry_at t k).port
  choice-first k f = choice-out ∙ out-found t d arrival k (first-tested t d arrival k f)

  -- demand 2, routes
  leaves-first : NextRoute t d arrival
  leaves-first = record {
    leaves = λ p. (by_first p (any_below qualifying t.count) refl, λ w. choice-first w.0 w.1 ∙ ap Out (sym w.2));
    refused = (
      λ h k q.
          let f = first_found qualifying t.count (any_found qualifying t.count k q.counts (tested t d arrival k q)) in
          out-refused (sym (choice-first _ (first-placed t d arrival _ f)) ∙ h),
      λ n. choice-out ∙ out_none t d arrival (none-placed t d arrival t.count (λ j l. n j) (omega arith)),
    );
  }
    where
      qualifying : ℕ → Bool
      qualifying = qualifies_at t d arrival

      by_first : (p : Port) (b : Bool) → any_below qualifying t.count ≡ b → choose_of t d arrival ≡ Out p
          → (k : ℕ) × First t d arrival k × (p ≡ (entry_at t k).port)
      by_first p true e h =
          let f = first-placed t d arrival _ (first_found qualifying t.count e) in
          (first_below qualifying t.count, f, out-same (sym h ∙ choice-first _ f))
      by_first p false e h = absurd (out-refused (sym h ∙ choice-out ∙ out_none t d arrival e))

pub next_route : NextRoutes
next_route = leaves-first

-- ---- when each answer is given

-- what a choice is, whatever the tests say
record Told (table call own way : Bool) (c : Choice) : Type 0 where
  is-50 : eqb (choice_refusal c) 50 ≡ not table
  is-51 : eqb (choice_refusal c) 51 ≡ (table && not call)
  is-52 : eqb (choice_refusal c) 52 ≡ (table && call && (not own && not way))
  is-local : choice_local c ≡ (table && call && own)
  numbered : among (choice_refusal c) choose_refusals ≡ true

by_tests : (table call own way : Bool) (here out : Port) → Told table call own way (choice_by table call own way here out)
by_tests false call own way here out = record { is-50 = refl; is-51 = refl; is-52 = refl; is-local = refl; numbered = refl }
by_tests true false own way here out = record { is-50 = refl; is-51 = refl; is-52 = refl; is-local = refl; numbered = refl }
by_tests true true true way here out = record { is-50 = refl; is-51 = refl; is-52 = refl; is-local = refl; numbered = refl }
by_tests true true false true here out = record { is-50 = refl; is-51 = refl; is-52 = refl; is-local = refl; numbered = refl }
by_tests true true false false here out = record { is-50 = refl; is-51 = refl; is-52 = refl; is-local = refl; numbered = refl }

module _ (t : Table) (d : Address) (arrival : Port) where
  told : Told (table_in_range t) (call_in_range d arrival) (is_own t d) (has_route t d arrival) (choose_of t d arrival)
  unfolding choose_of out_choice
  told = by_tests (table_in_range t) (call_in_range d arrival) (is_own t d) (has_route t d arrival) d.port (out_port t d arrival)

  -- a refusal has its number
  refused-by : (n : ℕ) → choose_of t d arrival ≡ Refused n → eqb (choice_refusal (choose_of t d arrival)) n ≡ true
  refused-by n h = eq-eqb (choice_refusal (choose_of t d arrival)) n (ap choice_refusal h)

  passed : (table_in_range t && call_in_range d arrival) ≡ true → Taken t d arrival
  passed h = record { table = and_left (table_in_range t) _ h; call = and_right (table_in_range t) _ h }

  -- when each answer is given
  answers : ChoiceAnswers t d arrival
  unfolding has_route
  answers = record {
    refused_50 = (λ h. no-not _ (sym told.is-50 ∙ refused-by 50 h), chosen-50 t d arrival);
    refused_51 = (
      λ h.
          let e = sym told.is-51 ∙ refused-by 51 h in
          (and_left (table_in_range t) _ e, no-not _ (and_right (table_in_range t) _ e)),
      λ w. chosen-51 t d arrival w.0 w.1,
    );
    refused_52 = (
      λ h.
          let e = sym told.is-52 ∙ refused-by 52 h in
          let n = and_right (table_in_range t && call_in_range d arrival) _ e in
          (passed (and_left (table_in_range t && call_in_range d arrival) _ e), no-not _ (and_left (not (is_own t d)) _ n), no-not _ (and_right (not (is_own t d)) _ n)),
      λ w. chosen-out t d arrival w.0.table w.0.call w.1 ∙ out_none t d arrival w.2,
    );
    local = λ p. (
      λ h.
          let e = sym told.is-local ∙ ap choice_local h in
          let k = passed (and_left (table_in_range t && call_in_range d arrival) _ e) in
          let o = and_right (table_in_range t && call_in_range d arrival) _ e in
          (k, o, local_same (sym h ∙ chosen-here t d arrival k.table k.call o)),
      λ w. chosen-here t d arrival w.0.table w.0.call w.1 ∙ ap Local (sym w.2),
    );
  }

pub every-choice : EveryChoice
every-choice = answers

-- the numbers that a choice gives
pub choose-numbers : ChooseNumbers
choose-numbers t d arrival = (told t d arrival).numbered

-- ---- entries past the count

module _ (t t' : Table) (a : Alike t t') where
  same-strays : any_below (stray_entry t) t.count ≡ any_below (stray_entry t') t'.count
  unfolding stray_entry
  same-strays =
      any-agree (stray_entry t) (stray_entry t') t.count (λ i l. ap (λ (e : Entry). not (entry_in_range e)) (a.entries i l))
      ∙ ap (any_below (stray_entry t')) a.count

  same-table : table_in_range t ≡ table_in_range t'
  unfolding table_in_range
  same-table = λ i. leb (a.count i) most_entries && station_in_range (record { brigade = a.brigade i; node = a.node i }) && not (same-strays i)

  module _ (d : Address) (arrival : Port) where
    same-own : is_own t d ≡ is_own t' d
    unfolding is_own
    same-own = λ i. same_station (record { brigade = a.brigade i; node = a.node i }) (station_of d)

    same_test : (i : ℕ) → i < t.count → qualifies_at t d arrival i ≡ qualifies_at t' d arrival i
    unfolding qualifies_at
    same_test i l = ap (qualifies d arrival) (a.entries i l)

    same-has : has_route t d arrival ≡ has_route t' d arrival
    unfolding has_route
    same-has = any-agree (qualifies_at t d arrival) (qualifies_at t' d arrival) t.count same_test ∙ ap (any_below (qualifies_at t' d arrival)) a.count

    same-port : has_route t d arrival ≡ true → out_port t d arrival ≡ out_port t' d arrival
    unfolding has_route out_port
    same-port h =
        ap (λ (e : Entry). e.port) (a.entries _ (first_found (qualifies_at t d arrival) t.count h).below)
        ∙ ap (λ (k : ℕ). (entry_at t' k).port) (first-agree (qualifies_at t d arrival) (qualifies_at t' d arrival) t.count same_test ∙ ap (first_below (qualifies_at t' d arrival)) a.count)

    same_out : out_choice t d arrival ≡ out_choice t' d arrival
    unfolding out_choice
    same_out = go (has_route t d arrival) refl
      where
        go : (b : Bool) → has_route t d arrival ≡ b → cond (has_route t d arrival) (Out (out_port t d arrival)) (Refused 52) ≡ cond (has_route t' d arrival) (Out (out_port t' d arrival)) (Refused 52)
        go true e = rw (← same-has, e) (ap Out (same-port e))
        go false e = rw (← same-has, e)

    same-choice : choose_of t d arrival ≡ choose_of t' d arrival
    unfolding choose_of
    same-choice = λ i. cond (not (same-table i)) (Refused 50) (cond (not (call_in_range d arrival)) (Refused 51) (cond (same-own i) (Local d.port) (same_out i)))

  -- entries past the count make no difference
  past : PastCount t t'
  past = record { table = same-table; choice = same-choice }

pub entries-past-count : EntriesPastCount
entries-past-count = past
