-- `sheet_lines::put_numbered` meets its contract: what the calls lay is joined in the line's order.
use Rattle.text.proofs.Joining.{◌▸◌}
use Rattle.sheet_lines.proofs.put_numbered.Goals as goal

pub returns : goal.returns
returns c =
    c.put_bytes-next.ensures ▸ c.put_number.ensures
