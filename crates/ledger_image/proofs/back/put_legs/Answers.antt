-- `ledger_image::put_legs` meets its contract: the count, and the ledger's own legs one after the other.
use mathlib.Core.Path.{◌≡◌, ◌∙◌}
use native.Mathlib.Omega.{arith}
use borrow.Author.Rules.{rules}
use lib.ListN.{length, take}
use Rattle.std.proofs.lemmas.List.{length-take-le}
use Rattle.lists.proofs.Places.{joined-none}
use Rattle.lists.proofs.Runs.{joined-put-row}
use Rattle.ledger.specs.Rules.{leg_at}
use Rattle.ledger_image.specs.Leg.{leg_bytes}
use Rattle.ledger_image.specs.Ledger.{with_ledger}
use Rattle.ledger_image.proofs.LegLaws.{length-leg}
use Rattle.ledger_image.proofs.LedgerLaws.{leg-read}
use Rattle.ledger_image.proofs.back.put_legs.Goals as goal

pub loop-i-init : goal.loop-i-init
loop-i-init c = rw joined-none

pub loop-i-preserved : goal.loop-i-preserved
loop-i-preserved c =
    let a = c.loop-i in
    rw c.leg_bytes.ensures at c.put_all-in-loop-i.ensures
    ∙ joined-put-row leg_bytes (leg_at c.args.l) 15 length-leg _ _ 1 a.i (leg-read c.args.l _ _ a.i c.loop-i-test.true) a.invariant

pub returns : goal.returns
unfolding with_ledger
returns c =
    let l = c.args.l in
    let counted : length (take c.args.n l.legs) ≡ c.args.n = search (rules, length-take-le) in
    let e : c.loop-i.i ≡ c.args.n = omega (arith, counted) in
    rw (c.put_all.ensures, e) at c.loop-i.invariant
