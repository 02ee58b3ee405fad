-- What the reader of a frame gives (document 01; document 02, Seven).
use Rattle.std.specs.Prelude.{ℕ, false, List, Result, Ok, Err}
use Rattle.lists.specs.Refusals.{unless_refused}
use Rattle.address.specs.Address.{zero_address}
use Rattle.refusal.specs.declared.Fault.{Fault}
use Rattle.refusal.specs.Numbers.{number}
use Rattle.envelope.specs.declared.Fixed.{Fixed}
use Rattle.envelope.specs.Frame.{fields_of}
use Rattle.envelope.specs.Refusal.{frame_refusal}
use Rattle.envelope.specs.Place.{frame_place}

-- the fixed fields of a frame; or the number that refuses it, and the place of the first byte of the first field at fault
pub data Read : Type 0 where
  Envelope : Fixed → Read
  Refused : ℕ → ℕ → Read

-- what the reader's result is as an answer
abbrev pub read_answer : Result Fixed Fault → Read
read_answer (Ok e) = Envelope e
read_answer (Err f) = Refused (number f.refusal) f.place

-- the fields beside a refusal: every one 0
abbrev pub zero_fields : Fixed
zero_fields = record { source = zero_address; count = 0; length = 0; priority = 0; version = 0; ack = false; seq = record { 0 = 0 }; kind = 0 }

-- the documents' number, place and values for each case of an answer: 0 and 0 stand beside an envelope, zeros stand beside a refusal
abbrev pub read_refusal : Read → ℕ
read_refusal (Envelope e) = 0
read_refusal (Refused n place) = n

abbrev pub read_place : Read → ℕ
read_place (Envelope e) = 0
read_place (Refused n place) = place

abbrev pub read_fields : Read → Fixed
read_fields (Envelope e) = e
read_fields (Refused n place) = zero_fields

-- the fixed fields of a frame, or its refusal and the place
unfoldable pub read_frame_of : List ℕ → Read
read_frame_of f = unless_refused (frame_refusal f) (Envelope (fields_of f)) (Refused (frame_refusal f) (frame_place f))
