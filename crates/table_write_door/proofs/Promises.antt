-- The theorems of specs/Promises.antt: the image that is written is read as the table, and a refusal has its number and leaves the image.
use Prim.Native.Nat.{ℕ, ◌-◌}
use mathlib.Core.Path.{◌≡◌, refl, sym, ap, ◌∙◌}
use mathlib.Core.Bool.{not}
use mathlib.Core.List.{List, [], ◌∷◌, ◌++◌}
use native.Mathlib.Omega.{arith}
use lib.Dec.{ltb}
use lib.ListN.{length, drop, replicate, length-append}
use lib.Seq.{take-append_seam}
use borrow.Author.Tests.{not-false}
use Rattle.lists.specs.Places.{element_at, firsts, row}
use Rattle.lists.proofs.Given.{Given, tested, either, among-more}
use Rattle.lists.proofs.Refusals.{pass, or-pass, taken}
use Rattle.lists.proofs.Runs.{firsts-take}
use Rattle.buffer.specs.Bytes.{Bytes}
use Rattle.address.specs.declared.Station.{Station}
use Rattle.table.specs.declared.Entry.{Entry}
use Rattle.table.specs.Table.{most_entries, no_entry, entry_at}
use Rattle.table.proofs.Laws.{count-le}
use Rattle.table_image.specs.Table.{table_of, table_image}
use Rattle.table_image.specs.Promises.{used_table}
use Rattle.table_image.proofs.Undo.{table-undo}
use Rattle.chart.specs.Values.{has_node}
use Rattle.chart_read.specs.Reading.{read_chart_of}
use Rattle.chart_write.specs.Promises.{chart_reader_refusals}
use Rattle.chart_write.proofs.Numbers.{reader-numbers}
use Rattle.table_write.specs.Writing.{table_with, table_for}
use Rattle.table_write.specs.Promises.{HasTable}
use Rattle.table_write.proofs.Promises.{written-in-range}
use Rattle.table_write_door.specs.Calls.{pz_table_refusal, pz_table_image}
use Rattle.table_write_door.specs.Promises.{ImageHoldsTable, pz_table_refusals, TableRefused}
use Rattle.table_write_door.proofs.Laws.{right, left}

-- a table with these entries has no others
used-with : (s : Station) (es : List Entry) → used_table (table_with s es) ≡ table_with s es
unfolding table_with row entry_at
used-with s es =
    let rest = replicate (most_entries - length es) no_entry in
    let l = es ++ rest in
    let e : firsts (element_at no_entry l) (length es) ≡ es =
    sym (firsts-take no_entry l (length es) (omega (arith, length-append es rest))) ∙ take-append_seam es rest
    in
    λ i. record { brigade = s.brigade; node = s.node; count = length es; entries = e i ++ rest }

-- the numbers that did not refuse
asked : (bytes : List ℕ) (s : Station) (room : ℕ) → Bytes bytes → pz_table_refusal bytes s room ≡ 0 → HasTable (read_chart_of bytes).chart s
unfolding pz_table_refusal
asked bytes s room b z =
    let p = or-pass (read_chart_of bytes).refusal _ z in
    record { chart = right bytes b p.0; node = not-false (has_node (read_chart_of bytes).chart.nodes s) (pass 43 _ _ p.1).0 }

pub image-holds-table : ImageHoldsTable
unfolding pz_table_image table_for
image-holds-table bytes s image b z =
    let c = (read_chart_of bytes).chart in
    let t = table_for c s in
    let rest = drop (length (table_image t)) image in
    ap table_of (taken (table_image t ++ rest) image z)
    ∙ table-undo.read t rest (count-le t (written-in-range c s (asked bytes s (length image) b z)))
    ∙ used-with s _

given : (bytes : List ℕ) (s : Station) (room : ℕ) → Given pz_table_refusals (pz_table_refusal bytes s room)
unfolding pz_table_refusal
given bytes s room =
    let n = (read_chart_of bytes).refusal in
    either pz_table_refusals n (record { is = among-more n chart_reader_refusals (44 ∷ 10 ∷ []) (reader-numbers bytes) })
    (tested pz_table_refusals 44 (not (has_node (read_chart_of bytes).chart.nodes s)) refl
    (tested pz_table_refusals 10 (ltb room 196) refl (record { is = refl })))

pub table-refused : TableRefused
table-refused = record { numbers = λ bytes s room. (given bytes s room).is; left = λ bytes s image h. left bytes s image h }
