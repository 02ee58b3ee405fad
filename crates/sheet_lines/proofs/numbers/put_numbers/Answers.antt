-- `sheet_lines::put_numbers` meets its contract: what the calls lay is joined in the line's order.
use Rattle.text.proofs.Joining.{◌▸◌}
use Rattle.sheet_lines.proofs.numbers.put_numbers.Goals as goal

pub returns : goal.returns
returns c =
    c.put_bytes-n1.ensures ▸ c.put_number-n2.ensures ▸ c.put_bytes-n3.ensures ▸ c.put_number-n4.ensures ▸ c.put_byte.ensures
