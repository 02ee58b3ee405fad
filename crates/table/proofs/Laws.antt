-- Laws of the definitions of specs/: one for each way that the code returns, and what the choice says of itself.
use Prim.Native.Nat.{ℕ, ◌<◌, ◌≤◌}
use mathlib.Core.Path.{◌≡◌, refl, sym, ap, ◌∙◌}
use lib.Dec.{leb}
use mathlib.Core.Bool.{Bool, true, false, not, ◌&&◌, ◌||◌, cond}
use lib.ListN.{length, get_or, take}
use borrow.Author.Tests.{leb-true, le-leb, lt-leb}
use Rattle.lists.specs.Places.{any_below}
use Rattle.lists.specs.Refusals.{refuse, unless_refused}
use Rattle.lists.proofs.Bools.{and_left}
use Rattle.lists.proofs.Places.{element-taken, any_found, first-stop, FirstAt}
use Rattle.address.specs.declared.Port.{Port}
use Rattle.address.specs.declared.Address.{Address}
use Rattle.address.specs.Address.{in_range}
use Rattle.table.specs.declared.Entry.{Entry}
use Rattle.table.specs.declared.Table.{Table}
use Rattle.std.specs.Prelude.{Result, Ok, Err}
use Rattle.refusal.specs.declared.Refusal.{Refusal}
use Rattle.refusal.specs.Numbers.{number_in}
use Rattle.table.specs.declared.Choice.{Choice as Taken}
use Rattle.table.specs.declared.Choice.TheVariants.{Local as TakenHere, Out as TakenOut}
use Rattle.table.specs.Choice.{Choice, Local, Out, Refused, choice_in}
use Rattle.table.specs.Table.{no_entry, entry_at, is_own, qualifies, qualifies_at, has_route, out_port, out_choice, entry_in_range, stray_entry, table_in_range, call_in_range, choose_of, choose_refusal, choose_port, choice_refusal, choice_local, choice_port}
use Rattle.table.specs.Private.{choice_for, choice_for_refusal}

-- ---- the way out

module _ (t : Table) (d : Address) (arrival : Port) where
  out-port : (k : ℕ) → FirstAt (qualifies_at t d arrival) t.count k → out_port t d arrival ≡ (entry_at t k).port
  unfolding out_port
  out-port k f = ap (λ (i : ℕ). (entry_at t i).port) (first-stop (qualifies_at t d arrival) t.count k f)

  -- the choice among the entries, where the first one that qualifies is at k, and where none qualifies
  pub out-found : (k : ℕ) → FirstAt (qualifies_at t d arrival) t.count k → out_choice t d arrival ≡ Out (entry_at t k).port
  unfolding out_choice has_route
  out-found k f = rw (any_found (qualifies_at t d arrival) t.count k f.below f.passes, out-port k f)

  pub out_none : any_below (qualifies_at t d arrival) t.count ≡ false → out_choice t d arrival ≡ Refused 52
  unfolding out_choice has_route
  out_none h = rw h

-- ---- the entries that the code reads: those that count are the table's own

module _ (t : Table) (z : Entry) (i : ℕ) (h : i < length (take t.count t.entries)) where
  entry_read : entry_at t i ≡ get_or (take t.count t.entries) i z
  unfolding entry_at
  entry_read = sym (element-taken no_entry z t.entries t.count i h)

  pub stray-read : stray_entry t i ≡ not (entry_in_range (get_or (take t.count t.entries) i z))
  unfolding stray_entry
  stray-read = ap (λ (e : Entry). not (entry_in_range e)) entry_read

  pub qualifies-read : (d : Address) (arrival : Port) → qualifies_at t d arrival i ≡ qualifies d arrival (get_or (take t.count t.entries) i z)
  unfolding qualifies_at
  qualifies-read d arrival = ap (qualifies d arrival) entry_read

  -- the search stops here
  pub out-read : (d : Address) (arrival : Port) → i < t.count → any_below (qualifies_at t d arrival) i ≡ false
      → qualifies d arrival (get_or (take t.count t.entries) i z) ≡ true → Out (get_or (take t.count t.entries) i z).port ≡ out_choice t d arrival
  out-read d arrival l n q =
      ap (λ (e : Entry). Out e.port) (sym entry_read)
      ∙ sym (out-found t d arrival i (record { below = l; passes = qualifies-read d arrival ∙ q; none_before = n }))

-- ---- ranges

-- a table in range has no more entries than places
pub count-le : (t : Table) → table_in_range t ≡ true → t.count ≤ 32
unfolding table_in_range
count-le t h = leb-true _ _ (and_left _ _ (and_left _ _ h))

-- ---- the choice, case by case

module _ (t : Table) (d : Address) (arrival : Port) where
  pub chosen-50 : table_in_range t ≡ false → choose_of t d arrival ≡ Refused 50
  unfolding choose_of
  chosen-50 h = rw h

  module _ (table : table_in_range t ≡ true) where
    pub chosen-51 : call_in_range d arrival ≡ false → choose_of t d arrival ≡ Refused 51
    unfolding choose_of
    chosen-51 h = rw (table, h)

    pub chosen-here : call_in_range d arrival ≡ true → is_own t d ≡ true → choose_of t d arrival ≡ Local d.port
    unfolding choose_of
    chosen-here h k = rw (table, h, k)

    pub chosen-out : call_in_range d arrival ≡ true → is_own t d ≡ false → choose_of t d arrival ≡ out_choice t d arrival
    unfolding choose_of
    chosen-out h k = rw (table, h, k)

    -- of a table and a call in range
    pub chosen-tested : call_in_range d arrival ≡ true → choose_of t d arrival ≡ choice_for t d arrival
    unfolding choose_of choice_for
    chosen-tested h = rw (table, h, le-leb t.count 32 (count-le t table))

-- what the test of a call's destination and port tells
pub call-told : (d : Address) (arrival : Port) {b : Bool} → b ≡ in_range d → (b && leb arrival.0 63) ≡ call_in_range d arrival
unfolding call_in_range
call-told d arrival e = ap (λ (b : Bool). b && leb arrival.0 63) e

-- ---- the way, case by case

module _ (t : Table) (d : Address) (arrival : Port) where
  pub tested-50 : 32 < t.count → choice_for t d arrival ≡ Refused 50
  unfolding choice_for
  tested-50 h = rw (lt-leb t.count 32 h)

  module _ (few : t.count ≤ 32) where
    pub tested-here : is_own t d ≡ true → choice_for t d arrival ≡ Local d.port
    unfolding choice_for
    tested-here k = rw (le-leb t.count 32 few, k)

    pub tested-by : is_own t d ≡ false → choice_for t d arrival ≡ out_choice t d arrival
    unfolding choice_for
    tested-by k = rw (le-leb t.count 32 few, k)

-- ---- what a choice says

-- the chain of choices and the chain of numbers, whatever the tests say
abbrev pub choice_by : Bool → Bool → Bool → Bool → Port → Port → Choice
choice_by table call own way here out = cond (not table) (Refused 50) (cond (not call) (Refused 51) (cond own (Local here) (cond way (Out out) (Refused 52))))

abbrev number_by : Bool → Bool → Bool → Bool → ℕ
number_by table call own way = refuse 50 (not table) (refuse 51 (not call) (refuse 52 (not (own || way)) 0))

by_tests : (table call own way : Bool) (here out : Port)
    → (choice_refusal (choice_by table call own way here out) ≡ number_by table call own way)
    × (choice_local (choice_by table call own way here out) ≡ unless_refused (number_by table call own way) own false)
    × (choice_port (choice_by table call own way here out) ≡ unless_refused (number_by table call own way) (cond own here.0 out.0) 0)
unfolding unless_refused
by_tests false call own way here out = (refl, refl, refl)
by_tests true false own way here out = (refl, refl, refl)
by_tests true true true way here out = (refl, refl, refl)
by_tests true true false true here out = (refl, refl, refl)
by_tests true true false false here out = (refl, refl, refl)

-- an answer has the number of its choice
pub number-told : (r : Result Taken Refusal) → choice_refusal (choice_in r) ≡ number_in r
number-told (Ok (TakenHere p)) = refl
number-told (Ok (TakenOut p)) = refl
number-told (Err k) = refl

-- all that `choose` promises, from its answer
pub choose-told : (t : Table) (d : Address) (arrival : Port) (r : Result Taken Refusal) → choice_in r ≡ choose_of t d arrival
    → (choice_in r ≡ choose_of t d arrival)
    × ((number_in r ≡ choose_refusal t d arrival)
    × ((choice_local (choice_in r) ≡ unless_refused (choose_refusal t d arrival) (is_own t d) false)
    × ((choice_port (choice_in r) ≡ unless_refused (choose_refusal t d arrival) (choose_port t d arrival) 0)
    × (choice_refusal (choice_in r) ≡ choose_refusal t d arrival))))
unfolding choose_of out_choice choose_refusal choose_port
choose-told t d arrival r e =
    let b = by_tests (table_in_range t) (call_in_range d arrival) (is_own t d) (has_route t d arrival) d.port (out_port t d arrival) in
    let n = ap choice_refusal e ∙ b.0 in
    (e, (sym (number-told r) ∙ n, (ap choice_local e ∙ b.1, (ap choice_port e ∙ b.2, n))))

-- all that `choice_for` promises, from its answer
pub tested-told : (t : Table) (d : Address) (arrival : Port) (r : Result Taken Refusal) → choice_in r ≡ choice_for t d arrival
    → (choice_in r ≡ choice_for t d arrival)
    × ((number_in r ≡ choice_for_refusal t d arrival)
    × ((choice_local (choice_in r) ≡ unless_refused (choice_for_refusal t d arrival) (is_own t d) false)
    × ((choice_port (choice_in r) ≡ unless_refused (choice_for_refusal t d arrival) (choose_port t d arrival) 0)
    × (choice_refusal (choice_in r) ≡ choice_for_refusal t d arrival))))
unfolding choice_for out_choice choice_for_refusal choose_port
tested-told t d arrival r e =
    let b = by_tests (leb t.count 32) true (is_own t d) (has_route t d arrival) d.port (out_port t d arrival) in
    let n = ap choice_refusal e ∙ b.0 in
    (e, (sym (number-told r) ∙ n, (ap choice_local e ∙ b.1, (ap choice_port e ∙ b.2, n))))
