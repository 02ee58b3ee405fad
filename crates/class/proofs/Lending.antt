-- What C gets of a writer into a lent buffer: the writer's own number, then 10 where the buffer has too little room.
use Prim.Native.Nat.{ℕ, ◌<◌, ◌≤◌}
use mathlib.Core.Path.{◌≡◌, sym, ◌∙◌}
use mathlib.Core.List.{List, ◌++◌}
use native.Mathlib.Omega.{arith}
use lib.Dec.{ltb}
use lib.ListN.{length, drop}
use lib.Seq.{sets}
use borrow.Author.Tests.{lt-ltb, le-ltb}
use Rattle.lists.specs.Refusals.{refuse, or_else}
use Rattle.lists.proofs.Refusals.{or-refused, taken, refused}
use Rattle.lists.proofs.Stores.{sets-front}
use Rattle.buffer.specs.Writing.{lent_after}

-- the number k and the buffer o, of a writer of w that wants so much room
module _ (number room : ℕ) (w out : List ℕ) where
  pub record Lent (k : ℕ) (o : List ℕ) : Type 0 where
    pub number_is : k ≡ or_else number (refuse 10 (ltb (length out) room) 0)
    pub buffer-is : o ≡ lent_after (or_else number (refuse 10 (ltb (length out) room) 0)) w out

  -- a refusal leaves the buffer as it was
  left : {k : ℕ} → k ≡ or_else number (refuse 10 (ltb (length out) room) 0) → (k ≡ 0 → ⊥) → Lent k out
  left e h = record { number_is = e; buffer-is = sym (refused (w ++ drop (length w) out) out _ (λ z. h (e ∙ z))) }

  pub lent-refused : (number ≡ 0 → ⊥) → Lent number out
  lent-refused h = left (sym (or-refused number _ h)) h

  pub lent-short : number ≡ 0 → length out < room → Lent 10 out
  lent-short z h = left (rw (z, lt-ltb (length out) room h)) (λ q. omega arith)

  pub lent_written : number ≡ 0 → room ≤ length out → length w ≤ room → Lent 0 (sets out 0 w)
  lent_written z h l =
      let n : or_else number (refuse 10 (ltb (length out) room) 0) ≡ 0 = rw (z, le-ltb (length out) room h) in
      record { number_is = sym n; buffer-is = sets-front out w (omega arith) ∙ sym (taken (w ++ drop (length w) out) out n) }
