-- `table_image::choose_in` meets its contract: the tests on the way say which case of `choose_of` holds.
use Prim.Native.Nat.{ℕ, ◌≤◌}
use mathlib.Core.Path.{◌≡◌, refl, sym, ◌∙◌}
use mathlib.Core.Bool.{true}
use mathlib.Core.List.{List}
use native.Mathlib.Omega.{arith}
use lib.ListN.{length}
use Rattle.std.specs.Prelude.{Ok, Err}
use Rattle.lists.proofs.Bools.{told-false, told-true}
use Rattle.refusal.specs.declared.Refusal.TheVariants.{BadTable, BadDestination}
use Rattle.table.specs.declared.Choice.TheVariants.{Local}
use Rattle.table.proofs.Laws.{call-told, chosen-50, chosen-51, chosen-here, chosen-out, choose-told}
use Rattle.table.specs.Table.{table_in_range}
use Rattle.table_image.specs.Table.{table_of}
use Rattle.table_image.proofs.Laws.{readable}
use Rattle.table_image.proofs.InImage.{ranged-read, own_held}
use Rattle.table_image.proofs.choose_in.Goals as goal

-- an image that stands for a table in range is whole
whole : (b : List ℕ) → table_in_range (table_of b) ≡ true → 196 ≤ length b
whole b ranged = (readable b (ranged-read b ranged)).long

pub returns-then-not-image_in_range : goal.returns-then-not-image_in_range
returns-then-not-image_in_range c =
    let w = choose-told (table_of c.args.b.now) c.args.d c.args.arrival (Err BadTable) (sym (chosen-50 _ _ _ (told-false c.image_in_range.ensures c.if-not-image_in_range.true))) in
    record { value = w.0; refusal = w.1.0; local = w.1.1.0; port = w.1.1.1.0; number = w.1.1.1.1 }

pub returns-then-not-in_range-arrival : goal.returns-then-not-in_range-arrival
returns-then-not-in_range-arrival c =
    let call = call-told c.args.d c.args.arrival c.in_range.ensures in
    let ranged = told-true c.image_in_range.ensures c.if-not-image_in_range.false in
    let w = choose-told (table_of c.args.b.now) c.args.d c.args.arrival (Err BadDestination) (sym (chosen-51 _ _ _ ranged (told-false call c.if-not-in_range-arrival.true))) in
    record { value = w.0; refusal = w.1.0; local = w.1.1.0; port = w.1.1.1.0; number = w.1.1.1.1 }

pub bounds-b-0 : goal.bounds-b-0
bounds-b-0 c = omega (arith, whole _ (told-true c.image_in_range.ensures c.if-not-image_in_range.false))

pub returns-then-b-d : goal.returns-then-b-d
returns-then-b-d c =
    let call = call-told c.args.d c.args.arrival c.in_range.ensures in
    let ranged = told-true c.image_in_range.ensures c.if-not-image_in_range.false in
    let own = own_held c.args.b.now (ranged-read _ ranged) _ c.word_at.ensures in
    let w = choose-told (table_of c.args.b.now) c.args.d c.args.arrival (Ok (Local c.args.d.port)) (sym (chosen-here _ _ _ ranged (told-true call c.if-not-in_range-arrival.false) (told-true own c.if-b-d.true))) in
    record { value = w.0; refusal = w.1.0; local = w.1.1.0; port = w.1.1.1.0; number = w.1.1.1.1 }

pub bounds-b-3 : goal.bounds-b-3
bounds-b-3 c = omega (arith, whole _ (told-true c.image_in_range.ensures c.if-not-image_in_range.false))

pub out_choice_in-requires : goal.out_choice_in-requires
out_choice_in-requires c = record { readable = ranged-read _ (told-true c.image_in_range.ensures c.if-not-image_in_range.false); counted = refl }

pub returns : goal.returns
returns c =
    let call = call-told c.args.d c.args.arrival c.in_range.ensures in
    let ranged = told-true c.image_in_range.ensures c.if-not-image_in_range.false in
    let own = own_held c.args.b.now (ranged-read _ ranged) _ c.word_at.ensures in
    let w = choose-told (table_of c.args.b.now) c.args.d c.args.arrival c.out_choice_in.result (c.out_choice_in.ensures ∙ sym (chosen-out _ _ _ ranged (told-true call c.if-not-in_range-arrival.false) (told-false own c.if-b-d.false))) in
    record { value = w.0; refusal = w.1.0; local = w.1.1.0; port = w.1.1.1.0; number = w.1.1.1.1 }
