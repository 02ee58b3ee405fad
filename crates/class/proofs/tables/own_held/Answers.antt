-- `class::tables::own_held` meets its contract: the first three bytes of its table.
use Rattle.class.proofs.Held.{own-station}
use Rattle.class.proofs.tables.own_held.Goals as goal

pub returns : goal.returns
returns c =
    let a = c.args in
    own-station a.tables.now a.at c.requires.ranged c.byte_at.ensures c.word_at.ensures
