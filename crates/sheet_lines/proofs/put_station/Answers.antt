-- `sheet_lines::put_station` meets its contract: what the calls lay is joined in the line's order.
use mathlib.Core.List.{append_assoc}
use Rattle.text.proofs.Joining.{said, ◌▸◌}
use Rattle.sheet_lines.specs.Lines.{station_text}
use Rattle.sheet_lines.proofs.put_station.Goals as goal

pub returns : goal.returns
unfolding station_text
returns c =
    said (simp append_assoc) (c.put_numbered-next.ensures ▸ c.put_numbered.ensures)
