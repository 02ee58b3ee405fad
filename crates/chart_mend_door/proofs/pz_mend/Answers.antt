-- `chart_mend_door::pz_mend` meets its contract: both sizes fit, and the call's own answer is what C gets.
use Prim.Native.Nat.{ℕ}
use mathlib.Core.Path.{sym, ◌∙◌}
use mathlib.Core.List.{List}
use native.Mathlib.Omega.{arith}
use lib.ListN.{length}
use Rattle.buffer.specs.Bytes.{Bytes}
use Rattle.refusal.proofs.Laws.{names}
use Rattle.chart_mend.specs.Mending.{mend_of}
use Rattle.chart_mend_door.specs.Calls.{pz_mend_refusal, pz_mend_chart, pz_mend_list}
use Rattle.chart_mend_door.proofs.Promises.{kept-short, listed-short, kept-is, listed-is, none-kept, none-listed}
use Rattle.chart_mend_door.proofs.pz_mend.Goals as goal

pub overflow_cast-kept : goal.overflow_cast-kept
overflow_cast-kept c =
    let input : List ℕ = c.args.input.now in
    let room : ℕ = length c.args.chart.now in
    let list-room : ℕ = length c.args.list.now in
    let v = c.in-Ok.ensures.value in
    let all : Bytes input = λ i. omega (arith, c.type_inv.input i) in
    record { fits = omega (arith, kept-is input room list-room v.1, kept-short input room list-room all) }

pub overflow_cast-listed : goal.overflow_cast-listed
overflow_cast-listed c =
    let input : List ℕ = c.args.input.now in
    let room : ℕ = length c.args.chart.now in
    let list-room : ℕ = length c.args.list.now in
    let v = c.in-Ok.ensures.value in
    record { fits = omega (arith, listed-is input room list-room v.1, listed-short input room list-room) }

pub returns-in-Ok : goal.returns-in-Ok
unfolding pz_mend_chart pz_mend_list pz_mend_refusal mend_of
returns-in-Ok c =
    let input : List ℕ = c.args.input.now in
    let room : ℕ = length c.args.chart.now in
    let list-room : ℕ = length c.args.list.now in
    let e = c.in-Ok.ensures in
    let v = e.value in
    (sym v.0, kept-is input room list-room v.1, listed-is input room list-room v.1, e.chart, e.list)

pub returns-in-Err : goal.returns-in-Err
unfolding pz_mend_chart pz_mend_list pz_mend_refusal mend_of
returns-in-Err c =
    let input : List ℕ = c.args.input.now in
    let room : ℕ = length c.args.chart.now in
    let list-room : ℕ = length c.args.list.now in
    let e = c.in-Err.ensures in
    let k = c.number.ensures in
    (k ∙ e.value, none-kept input room list-room e.value (names.none_zero _), none-listed input room list-room e.value (names.none_zero _), e.chart, e.list)
