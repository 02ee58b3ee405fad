-- `envelope_read::frame::whole` meets its contract: the tests on the way say which number.
use mathlib.Core.Path.{◌≡◌, refl, sym, ◌∙◌}
use lib.ListN.{length}
use Rattle.envelope.specs.Frame.{count_of, length_of, size_of}
use Rattle.envelope_read.proofs.Laws.{whole-1, whole-2, whole-3, whole-0}
use native.Mathlib.Omega.{arith}
use Rattle.envelope_read.proofs.frame.whole.Goals as goal

pub returns-then-n-size : goal.returns-then-n-size
unfolding count_of length_of
returns-then-n-size c = rw c.at.ensures (whole-1 c.args.frame.now (omega arith))

pub returns-then-size-n : goal.returns-then-size-n
unfolding count_of length_of
returns-then-size-n c = rw (c.at-then-size-n.ensures, c.word_at-w.ensures) (whole-2 c.args.frame.now (omega arith))

pub returns-then-check-frame : goal.returns-then-check-frame
unfolding count_of length_of
returns-then-check-frame c =
    let f = c.args.frame.now in
    let e : length f ≡ size_of f = omega arith in
    rw c.at-then-check-frame.ensures (whole-3 f e (λ q. c.if-check-frame.true (c.check.ensures ∙ q)))

pub returns : goal.returns
unfolding count_of length_of
returns c =
    let f = c.args.frame.now in
    let e : length f ≡ size_of f = omega arith in
    let w = whole-0 f e (sym c.check.ensures ∙ c.if-check-frame.false) in
    (w.0, (w.1, refl))
