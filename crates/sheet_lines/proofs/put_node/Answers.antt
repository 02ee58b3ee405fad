-- `sheet_lines::put_node` meets its contract: what the calls lay is joined in the line's order.
use mathlib.Core.List.{append_assoc}
use Rattle.text.proofs.Joining.{said, ◌▸◌}
use Rattle.sheet_lines.specs.Lines.{node_line}
use Rattle.sheet_lines.proofs.put_node.Goals as goal

pub returns : goal.returns
unfolding node_line
returns c =
    said (simp append_assoc) (c.put_number-n1.ensures ▸ c.put_station-n2.ensures ▸ c.put_label-n3.ensures ▸ c.put_byte.ensures)
