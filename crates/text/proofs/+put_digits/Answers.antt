-- `text::put_digits` meets its contract: a number below ten is one digit; else the digits of its tenth part come first.
use mathlib.Core.Path.{sym}
use native.Mathlib.Omega.{arith}
use Rattle.text.proofs.Joining.{nothing, ◌▸◌, said}
use Rattle.text.proofs.Digits.{digits-none, digits-one, digits_more}
use Rattle.text.proofs.+put_digits.Goals as goal

pub returns-then-k-eq0 : goal.returns-then-k-eq0
returns-then-k-eq0 t c = said (sym (digits-none c.args.k c.args.n c.if-k-eq0.true)) (nothing (omega arith) (omega arith))

pub returns-then-n-lt10 : goal.returns-then-n-lt10
returns-then-n-lt10 t c = said (sym (digits-one c.args.k c.args.n c.if-k-eq0.false c.if-n-lt10.true)) c.put_byte.ensures

pub returns : goal.returns
returns t c =
    said (sym (digits_more c.args.k c.args.n c.if-k-eq0.false c.if-n-lt10.false)) (c.put_digits-next.ensures ▸ c.put_byte-2.ensures)
