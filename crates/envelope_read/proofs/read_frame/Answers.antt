-- `envelope_read::read_frame` meets its contract: the first refusal of the frame, then that of its values, else its fields.
use Prim.Native.Nat.{ℕ, ◌≤◌}
use mathlib.Core.Bool.{false}
use mathlib.Core.Path.{◌≡◌, refl, sym, ap, ◌∙◌}
use borrow.Author.Rules.{rules}
use Rattle.std.specs.Prelude.{Ok, Err}
use Rattle.buffer.specs.Bytes.{Bytes}
use Rattle.lists.specs.Places.{element_at}
use Rattle.refusal.specs.Numbers.{number}
use Rattle.refusal.proofs.Laws.{names}
use Rattle.envelope.specs.declared.Fixed.{Fixed}
use Rattle.envelope.specs.Frame.{count_of, fields_of}
use Rattle.envelope.specs.Refusal.{frame_refusal}
use Rattle.envelope.proofs.Laws.{framed, count-le, part-from, twin-le}
use Rattle.envelope_read.specs.Private.{value_place}
use Rattle.envelope_read.proofs.Laws.{judges, place-of-values, place_of-broken, place_at, place-none, Answered, tells}
use native.Mathlib.Omega.{arith}
use Rattle.envelope_read.proofs.read_frame.Goals as goal

pub returns-in_err-whole : goal.returns-in_err-whole
returns-in_err-whole c =
    let f = c.args.frame.now in
    let passed_on : c.from_residual.result ≡ Err c.in_err-whole.field-0.0 = search rules in
    let k = c.in_err-whole.ensures in
    let v : Answered f c.from_residual.result = rw passed_on (place_of-broken f (names.none_zero c.in_err-whole.field-0.0.refusal) k.0 k.1) in
    let t = tells f c.from_residual.result v in
    record { value = v; answer = t.answer; refusal = t.refusal; place = t.place; values = t.values }

pub slice_bounds-keys_in-count : goal.slice_bounds-keys_in-count
slice_bounds-keys_in-count c = omega (arith, (framed c.args.frame.now c.in_ok-whole.ensures.0).sized)

pub slice_bounds-keys_in-start : goal.slice_bounds-keys_in-start
slice_bounds-keys_in-start c = omega (arith, (framed c.args.frame.now c.in_ok-whole.ensures.0).sized)

-- the frame has at most 63 destinations
counted : (f : _) {e : Fixed} → e ≡ fields_of f → e.count ≤ 63
unfolding fields_of
counted f h = rw h (count-le f)

pub keys_in-keys-requires : goal.keys_in-keys-requires
keys_in-keys-requires c = counted c.args.frame.now c.fields_of-e.ensures

pub value_place-requires-clause-counted : goal.value_place-requires-clause-counted
value_place-requires-clause-counted c = counted c.args.frame.now c.fields_of-e.ensures

pub value_place-requires-clause-placed : goal.value_place-requires-clause-placed
value_place-requires-clause-placed c =
    let e = c.fields_of-e.result in
    let within = twin-le e e.length false (element_at 0 c.keys_in-keys.result) in
    let few = counted c.args.frame.now c.fields_of-e.ensures in
    omega (arith, c.in-Err.ensures.1, within, few)

pub returns-in-Ok : goal.returns-in-Ok
returns-in-Ok c =
    let f = c.args.frame.now in
    let bytes : Bytes f = λ i. omega (arith, c.type_inv.frame i) in
    let judged = judges f bytes c.fields_of-e.result c.keys_in-keys.result c.in_ok-whole.ensures.0 c.fields_of-e.ensures (rw (part-from 5 f) at c.keys_in-keys.ensures) refl in
    let none : frame_refusal f ≡ 0 = sym judged.number ∙ c.in-Ok.ensures.0 in
    let v : Answered f (Ok c.fields_of-e.result) = (none, (place-none f none, c.fields_of-e.ensures)) in
    let t = tells f (Ok c.fields_of-e.result) v in
    record { value = v; answer = t.answer; refusal = t.refusal; place = t.place; values = t.values }

pub returns-in-Err : goal.returns-in-Err
unfolding fields_of
returns-in-Err c =
    let f = c.args.frame.now in
    let bytes : Bytes f = λ i. omega (arith, c.type_inv.frame i) in
    let fault = c.in-Err.fault in
    let told = c.in-Err.ensures in
    let judged = judges f bytes c.fields_of-e.result c.keys_in-keys.result c.in_ok-whole.ensures.0 c.fields_of-e.ensures (rw (part-from 5 f) at c.keys_in-keys.ensures) refl in
    let count : c.fields_of-e.result.count ≡ count_of f = ap (λ (x : Fixed). x.count) c.fields_of-e.ensures in
    let placed = place-of-values f bytes judged (λ z. names.none_zero fault.refusal (told.0 ∙ z)) in
    let v : Answered f (Err c.at.result) = rw c.at.ensures (told.0 ∙ judged.number, c.value_place.ensures ∙ ap (λ (m : ℕ). value_place (number fault.refusal) m fault.place) count ∙ rw (told.0, told.1) (placed ∙ place_at f judged.number)) in
    let t = tells f (Err c.at.result) v in
    record { value = v; answer = t.answer; refusal = t.refusal; place = t.place; values = t.values }
