-- `sheet_print::show` meets its contract: no sheet is longer than the room for it.
use Rattle.std.proofs.Common.{sym, ◌∙◌, subst, arith, length-take-le}
use Rattle.std.specs.Io.KnownBytes.{Appends}
use Rattle.buffer.specs.Bytes.{Bytes}
use Rattle.sheet.proofs.Promises.{wrote-short}
use Rattle.sheet_print.proofs.Whole.{never_refused, shown}
use Rattle.sheet_print.proofs.show.Goals as goal

pub slice_bounds-text-end : goal.slice_bounds-text-end
slice_bounds-text-end g c =
    let s : Bytes c.args.input.now = λ i. (c.type_inv.input i).fits in
    let h = wrote-short c.args.input.now s _ c.in-Ok.n c.in-Ok.ensures.value in
    omega arith

pub slice_bounds-write_all-end : goal.slice_bounds-write_all-end
slice_bounds-write_all-end g c =
    let s : Bytes c.args.input.now = λ i. (c.type_inv.input i).fits in
    let h = wrote-short c.args.input.now s _ c.in-Ok.n c.in-Ok.ensures.value in
    sym (length-take-le _ _ (omega arith))

pub unreachable-requires : goal.unreachable-requires
unreachable-requires g c =
    let s : Bytes c.args.input.now = λ i. (c.type_inv.input i).fits in
    never_refused c.args.input.now s _ (omega arith) _ c.in-Err.ensures.value

pub returns-in-Ok-write_all : goal.returns-in-Ok-write_all
returns-in-Ok-write_all g c =
    let s : Bytes c.args.input.now = λ i. (c.type_inv.input i).fits in
    let e = shown c.args.input.now _ s (omega arith) c.in-Ok.n c.in-Ok.ensures.value.1 _ c.write_sheet.ensures.buffer in
    subst (Appends _ _) e c.in-Ok-write_all.ensures.bytes
