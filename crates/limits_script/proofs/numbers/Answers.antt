-- `limits_script::numbers` meets its contract: each byte does to the numbers what the definition says.
use Prim.Native.Nat.{◌<◌}
use mathlib.Core.Path.{refl, sym, ◌∙◌}
use lib.ListN.{length}
use Rattle.limits_script.specs.Private.{no_digit, numbers_of}
use native.Mathlib.Omega.{arith}
use Rattle.limits_script.proofs.Laws.{numbers-end, numbers-blank, numbers-stop, numbers-digit}
use Rattle.limits_script.proofs.numbers.Goals.{then-c-eq32, else-c-eq32+else-c}
use Rattle.limits_script.proofs.numbers.Goals as goal

pub loop-i-init : goal.loop-i-init
unfolding numbers_of
loop-i-init c = (omega arith, refl)

pub returns-then-c : goal.returns-then-c
unfolding no_digit
returns-then-c c =
    let l = c.loop-i in
    let t = c.args.line.now in
    let h : l.i < length t = omega arith in
    sym (l.invariant.1 ∙ numbers-stop l.v l.k t l.i h c.if-c-eq32.false c.if-c.true)

pub loop-i-preserved : goal.loop-i-preserved
unfolding no_digit
loop-i-preserved c =
    let l = c.loop-i in
    let t = c.args.line.now in
    let h : l.i < length t = omega arith in
    elim c.if-c-eq32.branch [
      | then-c-eq32 w ↦ rw (w.k-is, w.v-is) (omega arith, l.invariant.1 ∙ numbers-blank l.v l.k t l.i h w.if-c-eq32.true)
      | else-c-eq32+else-c w ↦ rw (w.k-is, w.v-is, w.longer.ensures) (l.invariant.0, l.invariant.1 ∙ numbers-digit l.v l.k t l.i h w.if-c-eq32.false w.if-c.false)
    ]

pub returns : goal.returns
returns c =
    let l = c.loop-i in
    let t = c.args.line.now in
    sym (l.invariant.1 ∙ numbers-end l.v l.k t l.i (omega arith))
