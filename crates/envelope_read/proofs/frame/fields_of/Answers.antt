-- `envelope_read::frame::fields_of` meets its contract: what the address, the two words and the two bytes are, put into `fields_of`.
use Rattle.envelope.specs.Frame.{count_of, length_of, fields_of}
use Rattle.envelope_read.proofs.frame.fields_of.Goals as goal

pub returns : goal.returns
unfolding count_of length_of fields_of
returns c = rw (c.byte_at-kind.ensures, c.word_at-a.ensures, c.byte_at-p.ensures, c.word_at-w.ensures, c.packed_in-source.ensures)
