-- `ledger::keys::seen` meets its contract: the keys before i are those that are searched.
use mathlib.Core.Path.{◌≡◌, ◌∙◌}
use lib.Dec.{eqb}
use lib.ListN.{length}
use borrow.Author.Rules.{rules}
use Rattle.lists.specs.Places.{same_at, element_at}
use Rattle.lists.proofs.Places.{any-taken}
use Rattle.ledger.proofs.Laws.{open-seen}
use native.Mathlib.Omega.{arith}
use Rattle.ledger.proofs.keys.seen.Goals as goal

pub returns : goal.returns
unfolding same_at element_at
returns c =
    let keys = c.args.keys.now in
    let whole : length keys ≡ 128 = search rules in
    open-seen (element_at 0 keys) c.args.i (c.holds.ensures ∙ any-taken (eqb (element_at 0 keys c.args.i)) 0 keys c.args.i (omega (arith, whole)))
