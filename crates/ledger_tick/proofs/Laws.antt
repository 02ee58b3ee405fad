-- Laws of the call's definitions, over plain values: one for each way that the code returns.
use Prim.Native.Nat.{◌<◌, ◌≤◌, ◌-◌}
use mathlib.Core.Path.{◌≡◌, sym, ap}
use mathlib.Core.Bool.{true, false}
use lib.Dec.{leb}
use lib.ListN.{take}
use borrow.Author.Tests.{le-leb, lt-leb}
use Rattle.lists.specs.Lists.{how_many}
use Rattle.lists.specs.Refusals.{unless_refused}
use Rattle.ledger.specs.declared.Standing.TheVariants.{TimedOut}
use Rattle.ledger.specs.declared.Leg.{Leg}
use Rattle.ledger.specs.declared.Ledger.{Ledger}
use Rattle.ledger.specs.Rules.{with_standing, is_open, obeys}
use Rattle.std.specs.Prelude.{Result, Ok, Err}
use Rattle.refusal.specs.declared.Refusal.{Refusal}
use Rattle.refusal.specs.Numbers.{Answers}
use Rattle.ledger_tick.specs.declared.Ticked as code
use Rattle.ledger_tick.specs.Tick.{times_out, ticked_leg, ticked_ledger, Ticked, tick_answer, tick_refusal, tick_of}

module _ (g : Leg) where
  pub stays : is_open g.standing ≡ false → false ≡ times_out g
  unfolding times_out
  stays a = rw a

  pub by-ticks : is_open g.standing ≡ true → leb g.ticks 1 ≡ times_out g
  unfolding times_out
  by-ticks a = rw a

  pub ticked-settled : is_open g.standing ≡ false → g ≡ ticked_leg g
  unfolding ticked_leg
  ticked-settled a = rw a

  pub ticked-out : is_open g.standing ≡ true → g.ticks ≤ 1 → with_standing g 0 TimedOut ≡ ticked_leg g
  unfolding ticked_leg
  ticked-out a b = rw (a, le-leb _ _ b)

  pub ticked-less : is_open g.standing ≡ true → 1 < g.ticks → with_standing g (g.ticks - 1) g.standing ≡ ticked_leg g
  unfolding ticked_leg
  ticked-less a b = rw (a, lt-leb _ _ b)

module _ (l : Ledger) where
  pub tick-60 : obeys l ≡ false → ◌≡◌ {A = Ticked} (record { refusal = 60; ended = 0; ledger = l }) (tick_of l)
  unfolding tick_of tick_refusal unless_refused
  tick-60 a = rw a

  pub tick-0 : obeys l ≡ true → ◌≡◌ {A = Ticked} (record { refusal = 0; ended = how_many times_out (take l.count l.legs); ledger = ticked_ledger l }) (tick_of l)
  unfolding tick_of tick_refusal unless_refused
  tick-0 a = rw a

  -- what a tick comes to says its result's number, ledger and count
  pub tick-answers : (x : Result code.Ticked Refusal) (t : Ticked) → tick_answer l x ≡ t → Answers x t.refusal (record { ledger = t.ledger; ended = t.ended })
  tick-answers (Ok m) t e =
      (sym (ap (λ (y : Ticked). y.refusal) e), λ i. record { ledger = (ap (λ (y : Ticked). y.ledger) e) i; ended = (ap (λ (y : Ticked). y.ended) e) i })
  tick-answers (Err r) t e = ap (λ (y : Ticked). y.refusal) e
