-- `envelope::keys::seen` meets its contract: the keys before i are those that are searched.
use mathlib.Core.Path.{◌≡◌, ◌∙◌}
use lib.Dec.{eqb}
use lib.ListN.{length}
use borrow.Author.Rules.{rules}
use Rattle.lists.specs.Places.{same_at, repeat_at, element_at}
use Rattle.lists.proofs.Places.{any-taken}
use native.Mathlib.Omega.{arith}
use Rattle.envelope.proofs.keys.seen.Goals as goal

pub returns : goal.returns
unfolding repeat_at same_at element_at
returns c =
    let keys = c.args.keys.now in
    let whole : length keys ≡ 63 = search rules in
    c.holds.ensures ∙ any-taken (eqb (element_at 0 keys c.args.i)) 0 keys c.args.i (omega (arith, whole))
