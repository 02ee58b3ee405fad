-- `ledger_accept::accept` meets its contract: the frame's number first, then the call's, else the legs if they are asked for.
use Prim.Native.Nat.{ℕ}
use mathlib.Core.Path.{◌≡◌, sym, ◌∙◌}
use mathlib.Core.Bool.{false}
use mathlib.Core.List.{List}
use borrow.Author.Tests.{not-true, not-false}
use Rattle.buffer.specs.Bytes.{Bytes}
use Rattle.address.specs.declared.Port.{Port}
use Rattle.refusal.proofs.Laws.{names}
use Rattle.std.specs.Prelude.{Result, Ok, Err}
use Rattle.refusal.specs.declared.Fault.{Fault}
use Rattle.refusal.specs.Numbers.{AnswersAt}
use Rattle.envelope.specs.declared.Fixed.{Fixed}
use Rattle.envelope.specs.Frame.{fields_of}
use Rattle.envelope.specs.Refusal.{frame_refusal}
use Rattle.envelope.specs.Place.{frame_place}
use Rattle.envelope.proofs.Laws.{accepted}
use Rattle.table.specs.declared.Table.{Table}
use Rattle.ledger.specs.declared.Ledger.{Ledger}
use Rattle.ledger.proofs.Laws.{obedient}
use Rattle.ledger_accept.specs.Accept.{call_refusal, accept_refusal}
use Rattle.ledger_accept.proofs.Laws.{called, roomy, accept-answers, accept-refused, read-refusal, call-refusal, accept-quiet, accept-added}
use native.Mathlib.Omega.{arith}
use Rattle.ledger_accept.proofs.accept.Goals as goal

-- the number of an accepted frame is the call's
judged : (l : Ledger) (f : List ℕ) (arrival : Port) (t : Table) (ticks : ℕ) → Bytes f → {e : Fixed} → frame_refusal f ≡ 0 → e ≡ fields_of f
    → {n : ℕ} → n ≡ call_refusal l e false arrival t ticks → n ≡ accept_refusal l f arrival t ticks
judged l f arrival t ticks bytes z p h = h ∙ call-refusal l f arrival t ticks bytes z p

-- what the reader said of the frame, in the branch of its answer
module _ (f : List ℕ) where
  said : {x : Result Fixed Fault} → AnswersAt x (frame_refusal f) (frame_place f) (fields_of f) → {e : Fixed} → x ≡ Ok e → AnswersAt (Ok e) (frame_refusal f) (frame_place f) (fields_of f)
  said h is = rw is at h

pub returns-in_default : goal.returns-in_default
returns-in_default c =
    let a = c.args in
    let fault = c.in_default.field-0 in
    let h : AnswersAt (Err fault) (frame_refusal a.frame.now) (frame_place a.frame.now) (fields_of a.frame.now) = rw c.in_default.is at c.read_frame-answer.ensures.value in
    let n = h.0 ∙ read-refusal a.l a.frame.now a.arrival a.table a.ticks (λ z. names.none_zero fault.refusal (h.0 ∙ z)) in
    let w = accept-refused a.l a.frame.now a.arrival a.table a.ticks n (names.none_zero fault.refusal) h.1 in
    let passed_on : c.and.result ≡ Err fault = rw c.in_default.is at c.and.ensures in
    rw passed_on (record { value = accept-answers a.l (Err fault) _ w; answer = w })

pub returns-in-Err : goal.returns-in-Err
returns-in-Err c =
    let a = c.args in
    let g = said a.frame.now c.read_frame-answer.ensures.value c.in-Ok.is in
    let n = judged a.l a.frame.now a.arrival a.table a.ticks (λ i. omega (arith, c.type_inv.frame i)) g.0 g.1.1 c.in-Err.ensures in
    let w = accept-refused a.l a.frame.now a.arrival a.table a.ticks n (names.none_zero _) (sym g.1.0) in
    rw c.at.ensures (record { value = accept-answers a.l (Err _) _ w; answer = w })

pub returns-then-not-e : goal.returns-then-not-e
returns-then-not-e c =
    let a = c.args in
    let g = said a.frame.now c.read_frame-answer.ensures.value c.in-Ok.is in
    let n = judged a.l a.frame.now a.arrival a.table a.ticks (λ i. omega (arith, c.type_inv.frame i)) g.0 g.1.1 c.in_default-call_refusal.ensures in
    let w = accept-quiet a.l a.frame.now a.arrival a.table a.ticks (sym n) _ g.1.1 (not-true _ c.if-not-e.true) in
    record { value = accept-answers a.l (Ok _) _ w; answer = w }

pub slice_bounds-with_legs-count : goal.slice_bounds-with_legs-count
slice_bounds-with_legs-count c = omega (arith, (accepted _ (said c.args.frame.now c.read_frame-answer.ensures.value c.in-Ok.is).0).frame.sized)

pub slice_bounds-with_legs-start : goal.slice_bounds-with_legs-start
slice_bounds-with_legs-start c = omega (arith, (accepted _ (said c.args.frame.now c.read_frame-answer.ensures.value c.in-Ok.is).0).frame.sized)

pub with_legs-after-requires : goal.with_legs-after-requires
with_legs-after-requires c =
    let z = sym c.in_default-call_refusal.ensures in
    let k = called _ _ _ _ _ _ z in
    (omega (arith, (roomy _ _ _ _ _ _ z (not-false _ c.if-not-e.false)).room, (obedient _ k.rules).few), k.table, k.port)

pub returns : goal.returns
returns c =
    let a = c.args in
    let g = said a.frame.now c.read_frame-answer.ensures.value c.in-Ok.is in
    let n = judged a.l a.frame.now a.arrival a.table a.ticks (λ i. omega (arith, c.type_inv.frame i)) g.0 g.1.1 c.in_default-call_refusal.ensures in
    let w = accept-added a.l a.frame.now a.arrival a.table a.ticks (sym n) _ g.1.1 (not-false _ c.if-not-e.false) c.with_legs-after.ensures in
    record { value = accept-answers a.l (Ok _) _ w; answer = w }
