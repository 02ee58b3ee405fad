-- Laws of moving a chart to the other form: what C gets, from the answer and the buffer.
use Prim.Native.Nat.{ℕ, ◌≤◌}
use mathlib.Core.Path.{◌≡◌, sym, ◌∙◌}
use mathlib.Core.List.{List}
use mathlib.Core.Bool.{true}
use lib.ListN.{length}
use Rattle.lists.specs.Refusals.{unless_refused}
use Rattle.lists.proofs.Refusals.{refused}
use Rattle.buffer.specs.Bytes.{Bytes}
use Rattle.buffer.specs.Writing.{lent_after}
use Rattle.chart_read.specs.Fields.{is_form}
use Rattle.chart_read.specs.Reading.{read_chart_of}
use Rattle.chart_write.proofs.Promises.{place-near}
use Rattle.chart_form.specs.Moving.{Moved, moved_bytes, move_refusal, move_of, moved_after}
use Rattle.chart_form.proofs.Laws.{moved-short}

module _ (form : ℕ) (bytes out : List ℕ) where
  abbrev m : Moved
  m = move_of form bytes (length out)

  -- both numbers fit two bytes
  pub written-near : is_form form ≡ true → {n : ℕ} → n ≡ m.written → n ≤ 1113
  unfolding move_of
  written-near known e = rw e (moved-short form known bytes (length out))

  pub moved-place-near : Bytes bytes → {p : ℕ} → p ≡ m.place → p ≤ 1113
  unfolding move_of
  moved-place-near h e = rw e (place-near bytes h)

  -- what C gets: the number k, the bytes written n, the place p and the buffer o
  abbrev pub Moves : ℕ → ℕ → ℕ → List ℕ → Type 0
  Moves k n p o =
      (k ≡ move_refusal form bytes (length out)) × (n ≡ unless_refused (move_refusal form bytes (length out)) (length (moved_bytes form bytes)) 0)
      × (p ≡ (read_chart_of bytes).place) × (o ≡ lent_after (move_refusal form bytes (length out)) (moved_bytes form bytes) out)

  module _ {o : List ℕ} (x : o ≡ moved_after form bytes out) where
    pub moves-refused : {k p : ℕ} → k ≡ m.refusal → p ≡ m.place → (k ≡ 0 → ⊥) → Moves k 0 p o
    unfolding move_of moved_after
    moves-refused e q h = (e, sym (refused _ 0 _ (λ z. h (e ∙ z))), q, x)

    pub moves_done : m.refusal ≡ 0 → m.place ≡ 0 → {n : ℕ} → n ≡ m.written → Moves 0 n 0 o
    unfolding move_of moved_after
    moves_done z q e = (sym z, e, sym q, x)
