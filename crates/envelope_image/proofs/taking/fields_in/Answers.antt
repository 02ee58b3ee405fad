-- `envelope_image::fields_in` meets its contract: the address, the word and the bytes, put into `fields_in`.
use Rattle.envelope_image.specs.Image.{fields_in}
use Rattle.envelope_image.proofs.taking.fields_in.Goals as goal

pub returns : goal.returns
unfolding fields_in
returns c = rw (c.byte_at-5.ensures, c.byte_at-4.ensures, c.byte_at-3.ensures, c.byte_at-2.ensures, c.byte_at.ensures, c.word_at.ensures, c.address_in.ensures)
