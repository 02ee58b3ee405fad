-- `class_pass_door::pz_pass` meets its contract: the class's number, then 10, then the way, its length and how it ended.
use mathlib.Core.Path.{refl, sym, ap, ◌∙◌}
use native.Mathlib.Omega.{arith}
use lib.ListN.{length}
use Rattle.refusal.proofs.Laws.{names}
use Rattle.address.specs.Address.{address_of, station_of}
use Rattle.class.proofs.Telling.{passed_on}
use Rattle.class_pass_door.proofs.Laws.{fits, pass-refused, pass-short, pass-written}
use Rattle.class_pass_door.proofs.pz_pass.Goals as goal

pub overflow_cast-place : goal.overflow_cast-place
overflow_cast-place c =
    let a = c.args in
    let near = fits a.chart.now a.tables.now (address_of a.to_brigade a.to_node a.to_port) (station_of (address_of a.brigade a.node 0)) a.way.now (λ i. omega (arith, c.type_inv.chart i)) in
    record { fits = omega (arith, c.in-Err.ensures.value.1, near) }

pub returns-in-Err : goal.returns-in-Err
returns-in-Err c =
    let a = c.args in
    let told = c.in-Err.ensures.value in
    pass-refused a.chart.now a.tables.now (address_of a.to_brigade a.to_node a.to_port) (station_of (address_of a.brigade a.node 0)) a.way.now
    (c.number.ensures ∙ told.0) told.1 (λ z. names.none_zero c.in-Err.fault.refusal (sym c.number.ensures ∙ z))

pub returns-then-way-lt-LONGEST_WAY : goal.returns-then-way-lt-LONGEST_WAY
returns-then-way-lt-LONGEST_WAY c =
    let a = c.args in
    let told = c.in-Ok.ensures.value in
    pass-short a.chart.now a.tables.now (address_of a.to_brigade a.to_node a.to_port) (station_of (address_of a.brigade a.node 0)) a.way.now told.0 told.1.0 c.if-way-lt-LONGEST_WAY.true

pub shared_ref_as_front-put_all : goal.shared_ref_as_front-put_all
shared_ref_as_front-put_all c =
    let told = c.in-Ok.ensures.value in
    let t = passed_on _ _ _ _ (λ i. omega (arith, c.type_inv.chart i)) refl told.0 in
    rw told.1.1 (omega (arith, t.few, t.places))

pub slice_bounds-put_all-end : goal.slice_bounds-put_all-end
slice_bounds-put_all-end c =
    let told = c.in-Ok.ensures.value in
    let t = passed_on _ _ _ _ (λ i. omega (arith, c.type_inv.chart i)) refl told.0 in
    rw told.1.1 (sym (ap length t.nodes ∙ sym t.count))

pub overflow_cast-places : goal.overflow_cast-places
overflow_cast-places c =
    let told = c.in-Ok.ensures.value in
    let t = passed_on _ _ _ _ (λ i. omega (arith, c.type_inv.chart i)) refl told.0 in
    rw told.1.1 (record { fits = omega (arith, t.few) })

pub returns-else-way-lt-LONGEST_WAY : goal.returns-else-way-lt-LONGEST_WAY
returns-else-way-lt-LONGEST_WAY c =
    let a = c.args in
    let told = c.in-Ok.ensures.value in
    let t = passed_on _ _ _ _ (λ i. omega (arith, c.type_inv.chart i)) refl told.0 in
    rw told.1.1
    (pass-written a.chart.now a.tables.now (address_of a.to_brigade a.to_node a.to_port) (station_of (address_of a.brigade a.node 0)) a.way.now told.0 told.1.0 c.if-way-lt-LONGEST_WAY.false t (rw told.1.1 at c.put_all.ensures))
