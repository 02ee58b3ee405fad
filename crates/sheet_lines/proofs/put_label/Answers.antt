-- `sheet_lines::put_label` meets its contract: nothing for an empty label, else a blank and its bytes, of which there are no more than 24.
use mathlib.Core.Path.{◌≡◌}
use native.Mathlib.Omega.{arith}
use borrow.Author.Rules.{rules}
use lib.ListN.{length, take}
use Rattle.std.proofs.lemmas.List.{take_min}
use Rattle.text.proofs.Joining.{nothing, said, ◌▸◌}
use Rattle.sheet_lines.proofs.Labels.{label-none, label-part}
use Rattle.sheet_lines.proofs.put_label.Goals as goal

pub returns-then-long-eq0 : goal.returns-then-long-eq0
returns-then-long-eq0 c = let a = c.args in said (label-none a.long a.label c.if-long-eq0.true) (nothing (omega arith) (omega arith))

pub returns : goal.returns
returns c =
    let a = c.args in
    let whole : length a.label ≡ 24 = search rules in
    let e : take c.min.result a.label ≡ take a.long a.label = rw (c.min.ensures, ← whole) (take_min a.long a.label) in
    said (label-part c.min.result a.long a.label c.if-long-eq0.false (omega arith) e) (c.put_byte-next.ensures ▸ c.put_bytes.ensures)
