-- `ledger_tick::tick` meets its contract: `tick_first` of the legs that count, put back into the ledger.
use mathlib.Core.Path.{◌≡◌, ap, ◌∙◌}
use Rattle.lists.proofs.Bools.{told-false, told-true}
use Rattle.lists.proofs.Lists.{many-first}
use Rattle.ledger.proofs.Laws.{obedient}
use Rattle.ledger_tick.specs.declared.TickedLegs.{TickedLegs}
use Rattle.std.specs.Prelude.{Ok, Err}
use Rattle.refusal.specs.declared.Refusal.TheVariants.{BadLedger}
use Rattle.ledger_tick.specs.Tick.{times_out, ticked_ledger, Ticked, tick_of}
use Rattle.ledger_tick.proofs.Laws.{tick-60, tick-0, tick-answers}
use native.Mathlib.Omega.{arith}
use Rattle.ledger_tick.proofs.tick.Goals as goal

pub returns-then-not-obeys : goal.returns-then-not-obeys
returns-then-not-obeys c =
    let w = tick-60 c.args.l (told-false c.obeys.ensures c.if-not-obeys.true) in
    record { value = tick-answers c.args.l (Err BadLedger) _ w; answer = w }

pub tick_first-t-requires : goal.tick_first-t-requires
tick_first-t-requires c = (obedient c.args.l (told-true c.obeys.ensures c.if-not-obeys.false)).few

pub overflow_cast-result : goal.overflow_cast-result
overflow_cast-result c =
    let o = obedient c.args.l (told-true c.obeys.ensures c.if-not-obeys.false) in
    let e = ap (λ (t : TickedLegs). t.ended) c.tick_first-t.ensures in
    let m = many-first times_out c.args.l.count c.args.l.legs in
    record { fits = omega (arith, o.few) }

pub returns : goal.returns
unfolding ticked_ledger
returns c =
    let t = c.tick_first-t.ensures in
    let r = c.tick_first-t.result in
    let w : ◌≡◌ {A = Ticked} (record { refusal = 0; ended = r.ended; ledger = record { count = c.args.l.count; legs = r.legs } }) (tick_of c.args.l) =
    (λ i. record {
      refusal = 0;
      ended = (ap (λ (x : TickedLegs). x.ended) t) i;
      ledger = (ap (λ (x : TickedLegs). record { count = c.args.l.count; legs = x.legs }) t) i;
    }) ∙ tick-0 c.args.l (told-true c.obeys.ensures c.if-not-obeys.false) in
    record { value = tick-answers c.args.l (Ok _) _ w; answer = w }
