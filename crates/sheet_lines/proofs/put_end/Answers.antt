-- `sheet_lines::put_end` meets its contract: what the calls lay is joined in the line's order.
use mathlib.Core.List.{append_assoc}
use Rattle.text.proofs.Joining.{said, ◌▸◌}
use Rattle.sheet_lines.specs.Lines.{end_text}
use Rattle.sheet_lines.proofs.put_end.Goals as goal

pub returns : goal.returns
unfolding end_text
returns c =
    said (rw c.station_of.ensures (simp append_assoc)) (c.put_station-next.ensures ▸ c.put_numbered.ensures)
