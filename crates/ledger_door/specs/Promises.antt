-- What the calls on an image say taken together. proofs/Promises.antt and proofs/Images.antt have the theorems.
use Rattle.std.specs.Prelude.{◌≡◌, false, List, ℕ}
use Rattle.address.specs.declared.Port.{Port}
use Rattle.address.specs.declared.Seq.{Seq}
use Rattle.address.specs.declared.Address.{Address}
use Rattle.ledger_answer.specs.declared.Reply.{Reply}
use Rattle.table_image.specs.Table.{table_of}
use Rattle.ledger_image.specs.Ledger.{readable_ledger, ledger_of}
use Rattle.ledger_laws.specs.Calls.{accepting}
use Rattle.ledger_laws.specs.Promises.{broken_refusal}
use Rattle.ledger_door.specs.Calls.{pz_answer, pz_answer_image, pz_tick, pz_tick_image, pz_clear, pz_clear_image, pz_accept, pz_accept_image}

-- the image after a call is that of the ledger after it, whatever the image was
pub record ImagesFollow : Type 0 where
  pub answer : (b : List ℕ) (by to : Address) (seq : Seq) (reply : Reply) → ledger_of (pz_answer_image b by to seq reply) ≡ (pz_answer b by to seq reply).ledger
  pub tick : (b : List ℕ) → ledger_of (pz_tick_image b) ≡ (pz_tick b).ledger
  pub clear : (b : List ℕ) (place : ℕ) → ledger_of (pz_clear_image b place) ≡ (pz_clear b place).ledger
  pub accept : (b f : List ℕ) (arrival : Port) (table : List ℕ) (ticks : ℕ) → ledger_of (pz_accept_image b f arrival table ticks) ≡ (pz_accept b f arrival table ticks).ledger

-- an image that can't be read gets the number of a ledger that breaks its rules, in its turn
pub record Unreadable : Type 0 where
  pub answer : (b : List ℕ) (by to : Address) (seq : Seq) (reply : Reply) → readable_ledger b ≡ false → (pz_answer b by to seq reply).refusal ≡ 60
  pub tick : (b : List ℕ) → readable_ledger b ≡ false → (pz_tick b).refusal ≡ 60
  pub clear : (b : List ℕ) (place : ℕ) → readable_ledger b ≡ false → (pz_clear b place).refusal ≡ 60
  -- 1 to 9 of the frame, 50 and 51 come before 60
  pub accept : (b f : List ℕ) (arrival : Port) (table : List ℕ) (ticks : ℕ) → readable_ledger b ≡ false
      → (pz_accept b f arrival table ticks).refusal ≡ broken_refusal (accepting f arrival (table_of table) ticks)
