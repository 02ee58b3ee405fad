-- `limits_script::line_end` meets its contract: a line feed ends the line, or the text does.
use Prim.Native.Nat.{◌<◌}
use mathlib.Core.Path.{sym, ◌∙◌}
use lib.ListN.{length}
use native.Mathlib.Omega.{arith}
use Rattle.limits_script.proofs.Laws.{end-here, end_later, end-max}
use Rattle.limits_script.proofs.line_end.Goals as goal

pub returns-then-text-i-eq10 : goal.returns-then-text-i-eq10
returns-then-text-i-eq10 c =
    let l = c.loop-i in
    let h : l.i < length c.args.text.now = omega arith in
    record { value = sym (l.invariant ∙ end-here c.args.text.now l.i h c.if-text-i-eq10.true); within = (omega arith, omega arith) }

pub loop-i-preserved : goal.loop-i-preserved
loop-i-preserved c =
    let l = c.loop-i in
    let h : l.i < length c.args.text.now = omega arith in
    l.invariant ∙ end_later c.args.text.now l.i h c.if-text-i-eq10.false

pub returns : goal.returns
returns c =
    let l = c.loop-i in
    record { value = c.max.ensures ∙ end-max c.args.text.now c.args.at l.i l.auto.i-end c.loop-i-test.false l.invariant; within = (omega arith, omega arith) }
