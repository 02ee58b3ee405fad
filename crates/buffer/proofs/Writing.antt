-- What a writer's answer says of its number and of the bytes written.
use Prim.Native.Nat.{ℕ, zero, suc}
use mathlib.Core.Path.{◌≡◌, refl, ap}
use native.Mathlib.Omega.{arith}
use Rattle.std.specs.Prelude.{Result, Ok, Err}
use Rattle.lists.specs.Refusals.{unless_refused}
use Rattle.refusal.specs.declared.Refusal.{Refusal}
use Rattle.refusal.specs.Numbers.{Answers}
use Rattle.refusal.proofs.Laws.{names}
use Rattle.buffer.specs.Writing.{Wrote, Refused, written, written_refusal, written_count, wrote_unless}

pub wrote-refusal : (k n : ℕ) → written_refusal (wrote_unless k n) ≡ k
unfolding wrote_unless unless_refused
wrote-refusal zero n = refl
wrote-refusal (suc k) n = refl

pub wrote_count : (k n : ℕ) → written_count (wrote_unless k n) ≡ unless_refused k n 0
unfolding wrote_unless unless_refused
wrote_count zero n = refl
wrote_count (suc k) n = refl

-- an answer that says how many bytes were written is no refusal, and their number is the size
pub wrote-size : (m k n : ℕ) → wrote_unless k n ≡ Wrote m → (k ≡ 0) × (m ≡ n)
unfolding wrote_unless unless_refused
wrote-size m zero n h = (refl, cc)
wrote-size m (suc k) n h = let z : ◌≡◌ {A = ℕ} 0 1 = cc in absurd (omega arith)

-- the answer, from the number
pub wrote-taken : {k : ℕ} (n : ℕ) → k ≡ 0 → Wrote n ≡ wrote_unless k n
unfolding wrote_unless unless_refused
wrote-taken n z = rw z

pub wrote-refused : (k n : ℕ) → (k ≡ 0 → ⊥) → Refused k ≡ wrote_unless k n
unfolding wrote_unless unless_refused
wrote-refused zero n h = absurd (h refl)
wrote-refused (suc k) n h = refl

-- what a writer tells: its answer, and document 01's number and value of it
pub record Tells (x : Result ℕ Refusal) (k n : ℕ) : Type 0 where
  pub answer : written x ≡ wrote_unless k n
  pub refusal : written_refusal (written x) ≡ k
  pub count : written_count (written x) ≡ unless_refused k n 0

pub tells : (x : Result ℕ Refusal) (k n : ℕ) → Answers x k n → Tells x k n
unfolding wrote_unless unless_refused
tells (Ok m) k n h = rw (h.0, h.1) (record { answer = refl; refusal = refl; count = refl })
tells (Err r) zero n h = absurd (names.none_zero r h)
tells (Err r) (suc k) n h = record { answer = ap Refused h; refusal = h; count = refl }
