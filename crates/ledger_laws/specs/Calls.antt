-- The four calls on a ledger as values: what number and what count a call gives back, and the ledger after it.
use Rattle.std.specs.Prelude.{ℕ, List, [], ◌∷◌}
use Rattle.address.specs.declared.Port.{Port}
use Rattle.address.specs.declared.Seq.{Seq}
use Rattle.address.specs.declared.Address.{Address}
use Rattle.table.specs.declared.Table.{Table}
use Rattle.ledger.specs.declared.Ledger.{Ledger}
use Rattle.ledger_answer.specs.declared.Reply.{Reply}
use Rattle.ledger_answer.specs.Answer.{answer_of}
use Rattle.ledger_tick.specs.Tick.{tick_of}
use Rattle.ledger_clear.specs.Clear.{clear_of}
use Rattle.ledger_accept.specs.Accept.{accept_of}

-- a frame by an arrival port with a table and ticks; who answers, to whom, the sequence number and the reply; a tick; a place to clear
pub data Call : Type 0 where
  accepting : List ℕ → Port → Table → ℕ → Call
  answering : Address → Address → Seq → Reply → Call
  ticking : Call
  clearing : ℕ → Call

unfoldable pub refusal_of : Ledger → Call → ℕ
refusal_of l (accepting f arrival t ticks) = (accept_of l f arrival t ticks).refusal
refusal_of l (answering by to seq reply) = (answer_of l by to seq reply).refusal
refusal_of l ticking = (tick_of l).refusal
refusal_of l (clearing place) = (clear_of l place).refusal

unfoldable pub after : Ledger → Call → Ledger
after l (accepting f arrival t ticks) = (accept_of l f arrival t ticks).ledger
after l (answering by to seq reply) = (answer_of l by to seq reply).ledger
after l ticking = (tick_of l).ledger
after l (clearing place) = (clear_of l place).ledger

-- the count beside the number: the legs that were added, or timed out
unfoldable pub returned_count : Ledger → Call → ℕ
returned_count l (accepting f arrival t ticks) = (accept_of l f arrival t ticks).added
returned_count l (answering by to seq reply) = 0
returned_count l ticking = (tick_of l).ended
returned_count l (clearing place) = 0

-- the ledger after them all, each on the ledger that the one before returned
unfoldable pub after_all : Ledger → List Call → Ledger
after_all l [] = l
after_all l (c ∷ cs) = after_all (after l c) cs
