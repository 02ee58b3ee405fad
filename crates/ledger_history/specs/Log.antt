-- The log of an afternoon (document 02, Thirteen): any calls on a ledger in any order, each with the number and the count that it gave back. A tutor sees no more.
use Rattle.std.specs.Prelude.{ℕ, ◌+◌, cond, List, [], ◌∷◌, eqb}
use Rattle.ledger.specs.declared.Ledger.{Ledger}
use Rattle.ledger_laws.specs.Calls.{Call, accepting, answering, ticking, clearing, refusal_of, returned_count, after}

-- a call that was made
pub record Made : Type 0 where
  pub call : Call
  pub refusal : ℕ
  pub count : ℕ

-- each on the ledger that the one before returned
unfoldable pub log : Ledger → List Call → List Made
log l [] = []
log l (c ∷ cs) = record { call = c; refusal = refusal_of l c; count = returned_count l c } ∷ log (after l c) cs

-- the legs accepted: the counts that accept gave back, added up
unfoldable pub accepted_by : Call → ℕ → ℕ
accepted_by (accepting f arrival t ticks) count = count
accepted_by (answering by to seq reply) count = 0
accepted_by ticking count = 0
accepted_by (clearing place) count = 0

unfoldable pub accepted : List Made → ℕ
accepted [] = 0
accepted (m ∷ ms) = accepted_by m.call m.count + accepted ms

-- the legs cleared: the calls of clear that gave back 0
unfoldable pub cleared_by : Call → ℕ → ℕ
cleared_by (accepting f arrival t ticks) refusal = 0
cleared_by (answering by to seq reply) refusal = 0
cleared_by ticking refusal = 0
cleared_by (clearing place) refusal = cond (eqb refusal 0) 1 0

unfoldable pub cleared : List Made → ℕ
cleared [] = 0
cleared (m ∷ ms) = cleared_by m.call m.refusal + cleared ms
