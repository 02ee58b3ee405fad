-- `buffer::put_all` meets its contract: the stores that are left out lie past the end, and would change nothing.
use mathlib.Core.Path.{sym, ◌∙◌}
use Prim.Native.Nat.{◌-◌}
use lib.ListN.{length}
use Rattle.lists.proofs.Stores.{sets-past, sets-cut}
use native.Mathlib.Omega.{arith}
use Rattle.buffer.proofs.put_all.Goals as goal

pub returns-then-out-at : goal.returns-then-out-at
returns-then-out-at c = sym (sets-past c.args.src.now c.args.out.now c.args.at c.if-out-at.true)

pub returns-then-room-src : goal.returns-then-room-src
returns-then-room-src c = c.store_all.ensures ∙ sets-cut c.args.out.now c.args.at c.args.src.now (length c.args.out.now - c.args.at) (omega arith) (omega arith)
