-- `ledger_accept::adding::with_legs` meets its contract: each destination has its leg, after those that count.
use mathlib.Core.Path.{◌≡◌, refl}
use Rattle.lists.specs.Places.{firsts}
use Rattle.lists.proofs.Stores.{firsts-stored}
use Rattle.envelope.specs.Frame.{destination_at}
use Rattle.ledger_accept.specs.Accept.{leg_for_at, with_legs}
use Rattle.ledger_accept.proofs.Laws.{call-ranged}
use native.Mathlib.Omega.{arith}
use Rattle.ledger_accept.proofs.adding.with_legs.Goals as goal

pub loop-i-init : goal.loop-i-init
unfolding firsts
loop-i-init c = refl

pub leg_for-requires : goal.leg_for-requires
unfolding destination_at
leg_for-requires c =
    (c.requires.1, call-ranged c.args.part.now (λ i. omega (arith, c.type_inv.part i)) _ c.packed_in-d.ensures c.requires.2)

pub loop-i-preserved : goal.loop-i-preserved
unfolding leg_for_at destination_at
loop-i-preserved c =
    let l = c.loop-i in
    let a = c.args in
    rw (c.leg_for.ensures, c.packed_in-d.ensures, l.invariant)
    (firsts-stored a.l.legs a.l.count (leg_for_at a.e (destination_at a.part.now) a.arrival a.table a.ticks) l.i)

pub returns : goal.returns
unfolding with_legs
returns c =
    let l = c.loop-i in
    let e : l.i ≡ c.args.e.count = omega arith in
    rw (l.invariant, e)
