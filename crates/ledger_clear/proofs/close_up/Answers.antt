-- `ledger_clear::close_up` meets its contract. The loop's invariant is `CloseTurn`: the legs before i stand without the one at the place.
use Prim.Native.Nat.{◌≤◌}
use mathlib.Core.Path.{◌≡◌}
use lib.ListN.{length}
use Rattle.ledger_clear.proofs.Turns.{close-begin, close-turn, close-done}
use native.Mathlib.Omega.{arith}
use borrow.Author.Rules.{rules}
use Rattle.ledger_clear.proofs.close_up.Goals as goal

pub loop-i-init : goal.loop-i-init
loop-i-init c =
    let h : length c.args.l.legs ≡ 128 = search rules in
    close-begin _ _ c.requires.1 (omega (arith, h, c.requires.0))

pub loop-i-preserved : goal.loop-i-preserved
loop-i-preserved c =
    let h : length c.args.l.legs ≡ 128 = search rules in
    close-turn (omega (arith, h, c.requires.0, c.requires.1)) c.loop-i-test.true c.loop-i.invariant

pub returns : goal.returns
returns c =
    let h : length c.args.l.legs ≡ 128 = search rules in
    close-done _ _ _ _ c.no_leg.ensures c.requires.1 (omega (arith, h, c.requires.0)) c.loop-i-test.false c.loop-i.invariant
