-- `class_image::message_in` meets its contract: the five bytes, put into `message_in`.
use Rattle.class_image.specs.Message.{message_in}
use Rattle.class_image.proofs.message_in.Goals as goal

pub returns : goal.returns
unfolding message_in
returns c = rw (c.byte_at.ensures, c.byte_at-2.ensures, c.word_at.ensures, c.byte_at-3.ensures)
