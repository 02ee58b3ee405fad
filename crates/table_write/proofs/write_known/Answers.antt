-- `table_write::write_known` meets its contract: 44 where the place found is no node's, else the table over what is kept.
use Rattle.table_write.specs.Writing.{no_table}
use Rattle.table_write.proofs.Known.{answer-none, known-none, known-few, answer-table, known-table}
use Rattle.table_write.proofs.write_known.Goals as goal

pub returns-then-c-a : goal.returns-then-c-a
unfolding no_table
returns-then-c-a c =
    let a = c.args in
    record { value = known-none a.c a.s c.place_of-a.ensures c.if-c-a.true; answer = answer-none a.c a.s c.place_of-a.ensures c.if-c-a.true }

pub table_over-requires : goal.table_over-requires
table_over-requires c = let a = c.args in known-few a.c a.s c.place_of-a.ensures c.if-c-a.false

pub returns : goal.returns
returns c =
    let a = c.args in
    record {
      value = known-table a.c a.s c.place_of-a.ensures c.if-c-a.false c.ends_of-ends.ensures c.passages_for-ways.ensures c.first_links-first.ensures c.table_over.ensures;
      answer = answer-table a.c a.s c.place_of-a.ensures c.if-c-a.false c.ends_of-ends.ensures c.passages_for-ways.ensures c.first_links-first.ensures c.table_over.ensures;
    }
