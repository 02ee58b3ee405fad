-- `sheet_lines::put_direction` meets its contract: one word for each direction.
use Rattle.text.proofs.Joining.{said}
use Rattle.sheet_lines.proofs.Directions.{word-both, word_out, word_back}
use Rattle.sheet_lines.proofs.put_direction.Goals as goal

pub returns-then-d-eq-BOTH_WAYS : goal.returns-then-d-eq-BOTH_WAYS
returns-then-d-eq-BOTH_WAYS c =
    said (word-both c.args.d c.if-d-eq-BOTH_WAYS.true) c.put_bytes.ensures

pub returns-then-d-eq-OUT_ONLY : goal.returns-then-d-eq-OUT_ONLY
returns-then-d-eq-OUT_ONLY c =
    said (word_out c.args.d c.if-d-eq-BOTH_WAYS.false c.if-d-eq-OUT_ONLY.true) c.put_bytes-then-d-eq-OUT_ONLY.ensures

pub returns : goal.returns
returns c =
    said (word_back c.args.d c.if-d-eq-BOTH_WAYS.false c.if-d-eq-OUT_ONLY.false) c.put_bytes-2.ensures
