-- What a writer of bytes answers: how many it wrote, or a refusal (document 01, "What form each place takes": an enum's numbers and values).
use Rattle.std.specs.Prelude.{ℕ, List, ◌++◌, length, drop, Result, Ok, Err}
use Rattle.lists.specs.Refusals.{unless_refused}
use Rattle.refusal.specs.declared.Refusal.{Refusal}
use Rattle.refusal.specs.Numbers.{number}

-- how many bytes were written, or a refusal's number
pub data Written : Type 0 where
  Wrote : ℕ → Written
  Refused : ℕ → Written

-- what a writer's result is as an answer
abbrev pub written : Result ℕ Refusal → Written
written (Ok n) = Wrote n
written (Err r) = Refused (number r)

-- document 01's number and value for each case of an answer: no byte is written beside a refusal
abbrev pub written_refusal : Written → ℕ
written_refusal (Wrote n) = 0
written_refusal (Refused k) = k

abbrev pub written_count : Written → ℕ
written_count (Wrote n) = n
written_count (Refused k) = 0

-- the answer of a writer of n bytes whose refusal number is k
unfoldable pub wrote_unless : ℕ → ℕ → Written
wrote_unless k n = unless_refused k (Wrote n) (Refused k)

-- a lent buffer after a writer of these bytes whose refusal is k: a refusal leaves it as it was; else they stand at its start, and what stood after them stays
abbrev pub lent_after : ℕ → List ℕ → List ℕ → List ℕ
lent_after k bytes out = unless_refused k (bytes ++ drop (length bytes) out) out
