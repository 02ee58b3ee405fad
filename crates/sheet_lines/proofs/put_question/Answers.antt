-- `sheet_lines::put_question` meets its contract: what the calls lay is joined in the line's order.
use mathlib.Core.List.{append_assoc}
use Rattle.text.proofs.Joining.{said, ◌▸◌}
use Rattle.sheet_lines.specs.Lines.{question_line}
use Rattle.sheet_lines.proofs.put_question.Goals as goal

pub returns : goal.returns
unfolding question_line
returns c =
    said (simp append_assoc) (c.put_station-n1.ensures ▸ c.put_station-n2.ensures ▸ c.put_byte.ensures)
