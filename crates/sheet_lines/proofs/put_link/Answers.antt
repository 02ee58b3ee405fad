-- `sheet_lines::put_link` meets its contract: what the calls lay is joined in the line's order.
use mathlib.Core.List.{append_assoc}
use Rattle.text.proofs.Joining.{said, ◌▸◌}
use Rattle.sheet_lines.specs.Lines.{link_line}
use Rattle.sheet_lines.proofs.put_link.Goals as goal

pub returns : goal.returns
unfolding link_line
returns c =
    said (simp append_assoc) (c.put_number-n1.ensures ▸ c.put_end-n2.ensures ▸ c.put_end-n3.ensures ▸ c.put_on-n4.ensures ▸ c.put_direction.ensures)
