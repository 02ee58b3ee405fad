-- `ledger_image::ledger_of` meets its contract: an image that can't be read stands for a ledger that breaks its rules, else it has a count and that many legs.
use mathlib.Core.Path.{◌≡◌, sym, ap, ◌∙◌}
use Rattle.lists.specs.Places.{row}
use Rattle.lists.proofs.Bools.{told-false, told-true}
use Rattle.lists.proofs.Places.{row-none, row_next}
use Rattle.ledger.specs.Rules.{no_leg}
use Rattle.ledger_image.specs.Ledger.{leg_count, leg_held}
use Rattle.ledger_image.proofs.LedgerLaws.{readable, ledger-read, ledger-unread}
use native.Mathlib.Omega.{arith}
use Rattle.ledger_image.proofs.ledger_of.Goals as goal

pub returns-then-not-readable_ledger : goal.returns-then-not-readable_ledger
returns-then-not-readable_ledger c = rw c.no_leg-legs.ensures (ledger-unread c.args.b.now (told-false c.readable_ledger.ensures c.if-not-readable_ledger.true))

pub bounds-b-0 : goal.bounds-b-0
bounds-b-0 c =
    omega (arith, (readable c.args.b.now (told-true c.readable_ledger.ensures c.if-not-readable_ledger.false)).long)

pub loop-i-init : goal.loop-i-init
loop-i-init c =
    let b = c.args.b.now in
    let r = readable b (told-true c.readable_ledger.ensures c.if-not-readable_ledger.false) in
    (r.few, r.long, rw c.no_leg-legs.ensures (sym (row-none 128 no_leg (leg_held b))))

pub loop-i-preserved : goal.loop-i-preserved
unfolding leg_held
loop-i-preserved c =
    let l = c.loop-i in
    (l.invariant.0, l.invariant.1, rw (c.leg_in.ensures, l.invariant.2) (row_next 128 no_leg (leg_held c.args.b.now) l.i (omega (arith, l.invariant.0))))

pub returns : goal.returns
returns c =
    let l = c.loop-i in
    let b = c.args.b.now in
    let e : l.i ≡ leg_count b = omega arith in
    ledger-read b (told-true c.readable_ledger.ensures c.if-not-readable_ledger.false) (l.invariant.2 ∙ ap (row 128 no_leg (leg_held b)) e)
