-- `envelope::keys::first_seen` meets its contract: the first that was seen, or none.
use mathlib.Core.Path.{◌≡◌, sym, ◌∙◌}
use lib.Dec.{eqb}
use Rattle.lists.specs.Places.{repeat_at, element_at}
use Rattle.lists.proofs.Places.{any_none, any-more, first-stop, first-none}
use native.Mathlib.Omega.{arith}
use Rattle.envelope.proofs.keys.first_seen.Goals as goal

pub loop-i-init : goal.loop-i-init
loop-i-init c = any_none _

pub returns-then-seen : goal.returns-then-seen
returns-then-seen c =
    sym (first-stop (repeat_at eqb (element_at 0 c.args.keys.now)) c.args.n c.loop-i.i (record { below = c.loop-i-test.true; passes = sym c.seen.ensures ∙ c.if-seen.true; none_before = c.loop-i.invariant }))

pub loop-i-preserved : goal.loop-i-preserved
loop-i-preserved c = any-more _ c.loop-i.i c.loop-i.invariant (sym c.seen.ensures ∙ c.if-seen.false)

pub returns : goal.returns
returns c =
    let e : c.loop-i.i ≡ c.args.n = omega arith in
    sym (first-none (repeat_at eqb (element_at 0 c.args.keys.now)) c.args.n (rw e at c.loop-i.invariant))
