-- What C gets of pz_begin (include/poztecameh.h).
use Rattle.std.specs.Prelude.{ℕ, List, ltb, length}
use Rattle.lists.specs.Refusals.{refuse, or_else}
use Rattle.address.specs.declared.Station.{Station}
use Rattle.address.specs.declared.Address.{Address}
use Rattle.buffer.specs.Writing.{lent_after}
use Rattle.chart_read.specs.Reading.{read_chart_of}
use Rattle.class.specs.Calls.{send_refusal, begin_of}
use Rattle.class_image.specs.Message.{message_size, message_bytes}

-- the place of the field that the chart's number refuses, else 0
unfoldable pub pz_begin_place : List ℕ → ℕ
pz_begin_place bytes = (read_chart_of bytes).place

module _ (bytes tables : List ℕ) (d : Address) (s : Station) where
  -- the class's number, then 10 for an image of so much room that is too short
  unfoldable pub pz_begin_refusal : ℕ → ℕ
  pz_begin_refusal room = or_else (send_refusal bytes tables d s) (refuse 10 (ltb room message_size) 0)

  -- the image after the call
  unfoldable pub pz_begin_message : List ℕ → List ℕ
  pz_begin_message image = lent_after (pz_begin_refusal (length image)) (message_bytes (begin_of bytes tables d s).message) image
