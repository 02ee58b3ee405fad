-- What C gets of the calls over a ledger (include/poztecameh.h): the number and the numbers beside it are those of the ledger's own call. A refusal leaves the image;
-- else the legs that counted before the call are written, so that after a clear the place that it freed is among them, with the 15 zeros of no leg; after an accept those
-- that count now.
use Rattle.std.specs.Prelude.{ℕ, cond, List, eqb}
use Rattle.address.specs.declared.Port.{Port}
use Rattle.address.specs.declared.Seq.{Seq}
use Rattle.address.specs.declared.Address.{Address}
use Rattle.ledger_answer.specs.declared.Reply.{Reply}
use Rattle.ledger_answer.specs.declared.Reply.TheVariants.{Ack, Nak}
use Rattle.ledger.specs.Outcome.{Outcome}
use Rattle.ledger_answer.specs.Answer.{answer_of}
use Rattle.ledger_tick.specs.Tick.{Ticked, tick_of}
use Rattle.ledger_clear.specs.Clear.{clear_of}
use Rattle.ledger_accept.specs.Accept.{Added, accept_of}
use Rattle.table_image.specs.Table.{table_of}
use Rattle.ledger_image.specs.Ledger.{ledger_of, ledger_after}

-- nak 0 is an ACK, any other number a NAK
unfoldable pub reply_of : ℕ → ℕ → ℕ → Reply
reply_of nak set code = cond (eqb nak 0) Ack (Nak set code)

module _ (b : List ℕ) (by to : Address) (seq : Seq) (reply : Reply) where
  unfoldable pub pz_answer : Outcome
  pz_answer = answer_of (ledger_of b) by to seq reply

  unfoldable pub pz_answer_image : List ℕ
  pz_answer_image = ledger_after b pz_answer.refusal pz_answer.ledger (ledger_of b).count

module _ (b : List ℕ) where
  unfoldable pub pz_tick : Ticked
  pz_tick = tick_of (ledger_of b)

  unfoldable pub pz_tick_image : List ℕ
  pz_tick_image = ledger_after b pz_tick.refusal pz_tick.ledger (ledger_of b).count

module _ (b : List ℕ) (place : ℕ) where
  unfoldable pub pz_clear : Outcome
  pz_clear = clear_of (ledger_of b) place

  unfoldable pub pz_clear_image : List ℕ
  pz_clear_image = ledger_after b pz_clear.refusal pz_clear.ledger (ledger_of b).count

module _ (b f : List ℕ) (arrival : Port) (table : List ℕ) (ticks : ℕ) where
  unfoldable pub pz_accept : Added
  pz_accept = accept_of (ledger_of b) f arrival (table_of table) ticks

  unfoldable pub pz_accept_image : List ℕ
  pz_accept_image = ledger_after b pz_accept.refusal pz_accept.ledger pz_accept.ledger.count
