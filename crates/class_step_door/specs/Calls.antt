-- What C gets of pz_step (include/poztecameh.h).
use Rattle.std.specs.Prelude.{ℕ, List, ltb, length}
use Rattle.lists.specs.Refusals.{refuse, or_else}
use Rattle.address.specs.declared.Address.{Address}
use Rattle.buffer.specs.Writing.{lent_after}
use Rattle.chart_read.specs.Reading.{read_chart_of}
use Rattle.class.specs.Calls.{step_refusal, step_of}
use Rattle.class_image.specs.Message.{message_size, message_in, message_bytes}

-- the place of the field that the chart's number refuses, else 0
unfoldable pub pz_step_place : List ℕ → ℕ
pz_step_place bytes = (read_chart_of bytes).place

module _ (bytes tables : List ℕ) (d : Address) where
  -- the class's number for the message in the image, then 10 for an image that is too short (what it lacks is read as 0)
  unfoldable pub pz_step_refusal : List ℕ → ℕ
  pz_step_refusal image = or_else (step_refusal bytes tables d (message_in image)) (refuse 10 (ltb (length image) message_size) 0)

  -- the image after the call
  unfoldable pub pz_step_message : List ℕ → List ℕ
  pz_step_message image = lent_after (pz_step_refusal image) (message_bytes (step_of bytes tables d (message_in image)).message) image
