-- `sheet::write_sheet` meets its contract: a buffer that holds any sheet is written at once; else writing into an empty one measures it, and only a text
-- that fits is written.
use Prim.Native.Nat.{◌≤◌, ◌<◌}
use mathlib.Core.Path.{◌≡◌, ap}
use native.Mathlib.Omega.{arith}
use lib.ListN.{length}
use Rattle.std.specs.Prelude.{Ok, Err}
use Rattle.refusal.specs.declared.Refusal.TheVariants.{NoRoom}
use Rattle.buffer.proofs.Writing.{tells}
use Rattle.text.specs.Private.{last}
use Rattle.sheet.specs.Sheet.{sheet_text, write_sheet_of}
use Rattle.sheet.proofs.Laws.{sheet-refused, sheet-wrote, no_room, too_short, long-enough, as_lent}
use Rattle.sheet.proofs.Promises.{sheet-short}
use Rattle.sheet.proofs.write_sheet.Goals as goal

pub returns-then-out-ge-LONGEST_SHEET : goal.returns-then-out-ge-LONGEST_SHEET
unfolding write_sheet_of
returns-then-out-ge-LONGEST_SHEET c =
    let a = c.args in
    let put = c.put_sheet-all in
    let h : length (sheet_text a.bytes.now) ≤ 47369 = sheet-short a.bytes.now (λ i. omega (arith, c.type_inv.bytes i)) in
    let w = sheet-wrote a.bytes.now a.out.now (omega arith) (omega (arith, put.ensures.place)) put.ensures in
    let t = tells (Ok put.result) _ _ w.0 in
    record { value = w.0; buffer = w.1; answer = t.answer; refusal = t.refusal; count = t.count }

pub returns-then-out-n : goal.returns-then-out-n
unfolding write_sheet_of
returns-then-out-n c =
    let a = c.args in
    let out = a.out.now in
    let first = c.put_sheet-n in
    let h : length out < first.result = omega (arith, ap length (no_room out first.ensures)) in
    let w = sheet-refused a.bytes.now out (too_short out first.ensures h) (no_room out first.ensures) in
    let t = tells (Err NoRoom) _ _ w.0 in
    record { value = w.0; buffer = w.1; answer = t.answer; refusal = t.refusal; count = t.count }

pub returns : goal.returns
unfolding write_sheet_of
returns c =
    let a = c.args in
    let out = a.out.now in
    let first = c.put_sheet-n in
    let h : first.result ≤ length out = omega (arith, ap length (no_room out first.ensures)) in
    let g : length out < last = omega arith in
    let e : first.result ≡ length (sheet_text a.bytes.now) = long-enough out first.ensures h g in
    let w = sheet-wrote a.bytes.now out (omega arith) e (as_lent out first.ensures c.put_sheet.ensures) in
    let t = tells (Ok first.result) _ _ w.0 in
    record { value = w.0; buffer = w.1; answer = t.answer; refusal = t.refusal; count = t.count }
