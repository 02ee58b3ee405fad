-- `chart_mend::sort` meets its contract: each field that is taken is stored or listed, and the walk goes on past it.
use mathlib.Core.Path.{refl}
use native.Mathlib.Omega.{arith}
use Rattle.refusal.proofs.Laws.{names}
use Rattle.chart_mend.proofs.Sorting.{Turn, sorting_start, few-kept, few-listed, field-taken, goes_on, sorting-kept, sorting-dropped, sorting-end}
use Rattle.chart_mend.proofs.sort.Goals as goal

pub loop-at-init : goal.loop-at-init
loop-at-init c = let a = c.args in sorting_start a.input.now a.out.now a.list.now _ c.no_keys-keys.ensures

pub slice_bounds-put_all-count : goal.slice_bounds-put_all-count
slice_bounds-put_all-count c =
    let f = goes_on (field-taken c.loop-at.invariant c.type_inv.input c.loop-at-test.true c.take_field.ensures c.field_end-next.ensures) in
    omega (arith, f.on, f.within)

pub slice_bounds-put_all-start : goal.slice_bounds-put_all-start
slice_bounds-put_all-start c =
    let f = goes_on (field-taken c.loop-at.invariant c.type_inv.input c.loop-at-test.true c.take_field.ensures c.field_end-next.ensures) in
    omega (arith, f.on, f.within)

pub slice_bounds-put_all-end : goal.slice_bounds-put_all-end
slice_bounds-put_all-end c =
    let f = goes_on (field-taken c.loop-at.invariant c.type_inv.input c.loop-at-test.true c.take_field.ensures c.field_end-next.ensures) in
    omega (arith, f.on, f.within)

pub overflow_sub-kept : goal.overflow_sub-kept
overflow_sub-kept c =
    let f = goes_on (field-taken c.loop-at.invariant c.type_inv.input c.loop-at-test.true c.take_field.ensures c.field_end-next.ensures) in
    omega (arith, f.on, f.within)

pub overflow_add-kept : goal.overflow_add-kept
overflow_add-kept c =
    let f = goes_on (field-taken c.loop-at.invariant c.type_inv.input c.loop-at-test.true c.take_field.ensures c.field_end-next.ensures) in
    record { fits = omega (arith, few-kept c.loop-at.invariant, f.on, f.within, c.requires) }

pub overflow_add-listed : goal.overflow_add-listed
overflow_add-listed c = record { fits = omega (arith, few-listed c.loop-at.invariant, c.requires) }

pub loop-at-smaller-in-Ok : goal.loop-at-smaller-in-Ok
loop-at-smaller-in-Ok c =
    let f = goes_on (field-taken c.loop-at.invariant c.type_inv.input c.loop-at-test.true c.take_field.ensures c.field_end-next.ensures) in
    omega (arith, f.on)

pub loop-at-preserved-in-Ok : goal.loop-at-preserved-in-Ok
loop-at-preserved-in-Ok c =
    let f = field-taken c.loop-at.invariant c.type_inv.input c.loop-at-test.true c.in-Ok.ensures c.field_end-next.ensures in
    sorting-kept f refl _ c.put_all.ensures

pub loop-at-smaller : goal.loop-at-smaller
loop-at-smaller c =
    let f = goes_on (field-taken c.loop-at.invariant c.type_inv.input c.loop-at-test.true c.take_field.ensures c.field_end-next.ensures) in
    omega (arith, f.on)

pub loop-at-preserved : goal.loop-at-preserved
loop-at-preserved c =
    let f = field-taken c.loop-at.invariant c.type_inv.input c.loop-at-test.true c.in-Err.ensures c.field_end-next.ensures in
    sorting-dropped f (names.none_zero _) _ c.entry.ensures _ c.put_all-in-Err.ensures

pub returns : goal.returns
returns c =
    let l = c.loop-at in
    let a = c.args in
    let turn : Turn = record { out = l.out; list = l.list; keys = l.keys; kept = l.kept; listed = l.listed; at = l.at } in
    sorting-end a.input.now a.out.now a.list.now turn l.invariant c.loop-at-test.false
