-- `ledger::keys::repeated` meets its contract: one that was seen, or none.
use mathlib.Core.Path.{sym, ◌∙◌}
use Rattle.lists.specs.Places.{repeat_at, repeats, element_at}
use Rattle.lists.proofs.Places.{any_none, any-more, any-end, any_found}
use Rattle.ledger.specs.Private.{same_key}
use native.Mathlib.Omega.{arith}
use Rattle.ledger.proofs.keys.repeated.Goals as goal

pub loop-i-init : goal.loop-i-init
loop-i-init c = any_none _

pub returns-then-seen : goal.returns-then-seen
unfolding repeats
returns-then-seen c = sym (any_found (repeat_at same_key (element_at 0 c.args.keys.now)) c.args.n c.loop-i.i c.loop-i-test.true (sym c.seen.ensures ∙ c.if-seen.true))

pub loop-i-preserved : goal.loop-i-preserved
loop-i-preserved c = any-more _ c.loop-i.i c.loop-i.invariant (sym c.seen.ensures ∙ c.if-seen.false)

pub returns : goal.returns
unfolding repeats
returns c = any-end _ (omega arith) c.loop-i.invariant
