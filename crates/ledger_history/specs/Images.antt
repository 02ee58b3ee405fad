-- The same afternoon on one image, as C has it (include/poztecameh.h): each call is handed the image that the one before left.
use Rattle.std.specs.Prelude.{ℕ, List, [], ◌∷◌}
use Rattle.address.specs.declared.Port.{Port}
use Rattle.address.specs.declared.Seq.{Seq}
use Rattle.address.specs.declared.Address.{Address}
use Rattle.table_image.specs.Table.{table_of}
use Rattle.ledger_laws.specs.Calls.{Call, accepting, answering, ticking, clearing}
use Rattle.ledger_door.specs.Calls.{reply_of, pz_answer, pz_answer_image, pz_tick, pz_tick_image, pz_clear, pz_clear_image, pz_accept, pz_accept_image}
use Rattle.ledger_history.specs.Log.{Made}

-- a frame by an arrival port with a table's image and ticks; who answers, to whom, the sequence number, nak, set and code; a tick; a place to clear
pub data PzCall : Type 0 where
  pz_accepting : List ℕ → Port → List ℕ → ℕ → PzCall
  pz_answering : Address → Address → Seq → ℕ → ℕ → ℕ → PzCall
  pz_ticking : PzCall
  pz_clearing : ℕ → PzCall

-- what it asks of the ledger in the image
unfoldable pub call_of : PzCall → Call
call_of (pz_accepting f arrival table ticks) = accepting f arrival (table_of table) ticks
call_of (pz_answering by to seq nak set code) = answering by to seq (reply_of nak set code)
call_of pz_ticking = ticking
call_of (pz_clearing place) = clearing place

-- the number and the count that it gives back for an image
unfoldable pub pz_refusal : List ℕ → PzCall → ℕ
pz_refusal b (pz_accepting f arrival table ticks) = (pz_accept b f arrival table ticks).refusal
pz_refusal b (pz_answering by to seq nak set code) = (pz_answer b by to seq (reply_of nak set code)).refusal
pz_refusal b pz_ticking = (pz_tick b).refusal
pz_refusal b (pz_clearing place) = (pz_clear b place).refusal

unfoldable pub pz_count : List ℕ → PzCall → ℕ
pz_count b (pz_accepting f arrival table ticks) = (pz_accept b f arrival table ticks).added
pz_count b (pz_answering by to seq nak set code) = 0
pz_count b pz_ticking = (pz_tick b).ended
pz_count b (pz_clearing place) = 0

-- the image after it, and after them all
unfoldable pub image_after : List ℕ → PzCall → List ℕ
image_after b (pz_accepting f arrival table ticks) = pz_accept_image b f arrival table ticks
image_after b (pz_answering by to seq nak set code) = pz_answer_image b by to seq (reply_of nak set code)
image_after b pz_ticking = pz_tick_image b
image_after b (pz_clearing place) = pz_clear_image b place

unfoldable pub image_after_all : List ℕ → List PzCall → List ℕ
image_after_all b [] = b
image_after_all b (c ∷ cs) = image_after_all (image_after b c) cs

-- the log of them: what C gave back
unfoldable pub pz_log : List ℕ → List PzCall → List Made
pz_log b [] = []
pz_log b (c ∷ cs) = record { call = call_of c; refusal = pz_refusal b c; count = pz_count b c } ∷ pz_log (image_after b c) cs
