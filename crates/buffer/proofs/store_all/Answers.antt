-- `buffer::store_all` meets its contract. The loop's invariant: the bytes of src before i are stored.
use Rattle.lists.proofs.Stores.{sets_more}
use Rattle.buffer.proofs.store_all.Goals as goal

pub loop-i-preserved : goal.loop-i-preserved
loop-i-preserved c = rw c.loop-i.invariant (sets_more c.args.out.now c.args.at c.args.src.now c.loop-i.i 0 c.loop-i-test.true)
