-- `table_image::entry_in` meets its contract: the target, the port and whether it is on, put into `entry_in`.
use Rattle.table_image.specs.Table.{entry_in}
use Rattle.table_image.proofs.entry_in.Goals as goal

pub returns : goal.returns
unfolding entry_in
returns c = rw (c.target_of.ensures, c.word_at.ensures)
