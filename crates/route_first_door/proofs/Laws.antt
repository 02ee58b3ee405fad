-- What C gets of pz_first and pz_next, from what the reader and the trace give.
use Prim.Native.Nat.{ℕ}
use mathlib.Core.Path.{◌≡◌, sym, ap, subst, ◌∙◌}
use mathlib.Core.List.{List}
use native.Mathlib.Nat.{le_refl}
use lib.ListN.{length}
use Rattle.buffer.specs.Bytes.{Bytes}
use Rattle.lists.specs.Refusals.{unless_refused}
use Rattle.lists.proofs.Refusals.{taken, refused}
use Rattle.chart.specs.declared.Chart.{Chart}
use Rattle.std.specs.Prelude.{Result, Ok, Err}
use Rattle.refusal.specs.declared.Refusal.{Refusal}
use Rattle.refusal.specs.declared.Fault.{Fault}
use Rattle.refusal.specs.Numbers.{number, AnswersAt}
use Rattle.refusal.proofs.Laws.{names}
use Rattle.chart_read.specs.Reading.{read_chart_of}
use Rattle.route_search.specs.Answers.{Refused, traced, Told, first_route, next_route}
use Rattle.route_search.proofs.Telling.{Promised}
use Rattle.chart_net.specs.Private.{array_routes}
use Rattle.chart_refuse.specs.Refusal.{chart_refusal}
use Rattle.chart_write.proofs.Promises.{write_undoes_read}
use Rattle.route_trace.specs.Trace.{one_number, trace_first, trace_next}
use Rattle.route_trace.specs.Private.{first_known_refusal, next_known_refusal}
use Rattle.route_trace.proofs.Laws.{first-promised, next-promised}
use Rattle.route_first_door.specs.Routes.{if_read, pz_first, pz_next}

-- what C gets: the number k and the buffer o
abbrev pub Gives : Told → ℕ → List ℕ → Type 0
Gives t k o = (k ≡ one_number t.answer) × (o ≡ t.bytes)

-- a chart that is read is right, and needs no second test
pub right : (bytes : List ℕ) → Bytes bytes → (read_chart_of bytes).refusal ≡ 0 → chart_refusal (read_chart_of bytes).chart ≡ 0
right bytes b z = (write_undoes_read bytes b z bytes (le_refl (length bytes))).refusal

-- what the reader gives
abbrev pub Reads : List ℕ → Result Chart Fault → Type 0
Reads bytes x = AnswersAt x (read_chart_of bytes).refusal (read_chart_of bytes).place (read_chart_of bytes).chart

module _ (bytes buf : List ℕ) where
  unread : (t : Told) (f : Fault) → Reads bytes (Err f) → Gives (if_read bytes buf t) (number f.refusal) buf
  unfolding if_read
  unread t f h =
      let e : unless_refused (read_chart_of bytes).refusal t (record { answer = Refused (read_chart_of bytes).refusal; bytes = buf }) ≡ record { answer = Refused (read_chart_of bytes).refusal; bytes = buf } =
      refused t _ (read_chart_of bytes).refusal (λ z. names.none_zero f.refusal (h.0 ∙ z)) in
      (h.0 ∙ ap (λ (x : Told). one_number x.answer) (sym e), ap (λ (x : Told). x.bytes) (sym e))

  read : (t : Told) → (read_chart_of bytes).refusal ≡ 0 → {k : ℕ} {o : List ℕ} → k ≡ one_number t.answer → o ≡ t.bytes → Gives (if_read bytes buf t) k o
  unfolding if_read
  read t z p s =
      let e = taken t (record { answer = Refused (read_chart_of bytes).refusal; bytes = buf }) z in
      (p ∙ ap (λ (x : Told). one_number x.answer) (sym e), s ∙ ap (λ (x : Told). x.bytes) (sym e))

  pub first-unread : (f : Fault) → Reads bytes (Err f) → Gives (pz_first bytes buf) (number f.refusal) buf
  unfolding pz_first
  first-unread f h = unread (trace_first (read_chart_of bytes).chart buf) f h

  pub next-unread : (n : ℕ) (f : Fault) → Reads bytes (Err f) → Gives (pz_next bytes buf n) (number f.refusal) buf
  unfolding pz_next
  next-unread n f h = unread (trace_next (read_chart_of bytes).chart buf n) f h

  module _ (b : Bytes bytes) (c : Chart) (h : Reads bytes (Ok c)) {x : Result ℕ Refusal} {k : ℕ} {o : List ℕ} (p : k ≡ one_number (traced x)) where
    pub first_read : Promised (first_known_refusal c buf) (first_route (array_routes c)) buf x o → Gives (pz_first bytes buf) k o
    unfolding pz_first trace_first
    first_read w =
        let v = (read_chart_of bytes).chart in
        let q = first-promised v (right bytes b h.0) buf (subst (λ (y : Chart). Promised (first_known_refusal y buf) (first_route (array_routes y)) buf x o) h.1.1 w) in
        read (trace_first v buf) h.0 (p ∙ ap one_number q.answer) q.bytes

    pub next-read : (n : ℕ) → Promised (next_known_refusal c buf n) (next_route (array_routes c) buf n) buf x o → Gives (pz_next bytes buf n) k o
    unfolding pz_next trace_next
    next-read n w =
        let v = (read_chart_of bytes).chart in
        let q = next-promised v (right bytes b h.0) buf n (subst (λ (y : Chart). Promised (next_known_refusal y buf n) (next_route (array_routes y) buf n) buf x o) h.1.1 w) in
        read (trace_next v buf n) h.0 (p ∙ ap one_number q.answer) q.bytes
