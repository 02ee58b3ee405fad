-- `ledger_tick::tick_first` meets its contract: each turn ticks one leg more where it stands.
use Prim.Native.Nat.{ℕ, ◌+◌}
use mathlib.Core.Path.{◌≡◌, refl, ap, ◌∙◌}
use mathlib.Core.List.{List, ◌++◌}
use native.Mathlib.Omega.{arith}
use mir.Val.{bool_byte}
use lib.ListN.{get_or, set, take, drop}
use Rattle.std.proofs.lemmas.List.{take_all}
use Rattle.lists.specs.Lists.{how_many}
use Rattle.lists.proofs.Bools.{bool_small}
use Rattle.lists.proofs.Lists.{many-first}
use Rattle.ledger.specs.declared.Leg.{Leg}
use Rattle.ledger.specs.Rules.{no_leg}
use Rattle.ledger_tick.specs.Tick.{times_out, ticked_leg}
use Rattle.ledger_tick.proofs.Turns.{turned, turned_all, next-legs, next-ended}
use Rattle.ledger_tick.proofs.tick_first.Goals as goal

pub loop-leg-init : goal.loop-leg-init
unfolding how_many
loop-leg-init c = (refl, refl)

pub overflow_add-ended : goal.overflow_add-ended
overflow_add-ended c = omega (arith, many-first times_out c.loop-leg.leg-index (take c.args.n c.args.legs), bool_small c.tick_leg.result, c.loop-leg.invariant.1)

pub loop-leg-preserved : goal.loop-leg-preserved
loop-leg-preserved c =
    let l = c.loop-leg in
    let legs = take c.args.n c.args.legs in
    let e : (c.tick_leg.result ≡ times_out (get_or (turned ticked_leg legs l.leg-index) l.leg-index no_leg)) × (c.tick_leg.new.leg ≡ ticked_leg (get_or (turned ticked_leg legs l.leg-index) l.leg-index no_leg)) =
    rw l.invariant.0 at c.tick_leg.ensures in (
      ap (λ (m : List Leg). set m l.leg-index c.tick_leg.new.leg) l.invariant.0 ∙ next-legs legs l.leg-index c.loop-leg-test.true c.tick_leg.new.leg e.1,
      ap (λ (k : ℕ). k + bool_byte c.tick_leg.result) l.invariant.1 ∙ next-ended legs l.leg-index c.loop-leg-test.true c.tick_leg.result e.0,
    )

pub returns : goal.returns
returns c =
    let l = c.loop-leg in
    let legs = take c.args.n c.args.legs in
    let ticked = ap (λ (m : List Leg). m ++ drop c.args.n c.args.legs) (l.invariant.0 ∙ turned_all ticked_leg legs l.leg-index c.loop-leg-test.false) in
    let ended = l.invariant.1 ∙ ap (how_many times_out) (take_all l.leg-index legs c.loop-leg-test.false) in
    λ i. record { legs = ticked i; ended = ended i }
