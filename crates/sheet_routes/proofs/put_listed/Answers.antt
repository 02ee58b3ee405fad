-- `sheet_routes::put_listed` meets its contract: the lines of the slots, and the last line by the answer.
use Rattle.text.proofs.Joining.{said, ◌▸◌}
use Rattle.sheet_routes.proofs.Routes.{listed-over, listed-whole}
use Rattle.sheet_routes.proofs.put_listed.Goals as goal

pub returns-then-l : goal.returns-then-l
returns-then-l c =
    let a = c.args in
    said (listed-over a.slots.now a.l c.if-l.true) (c.put_slots-next.ensures ▸ c.put_more.ensures)

pub returns : goal.returns
returns c =
    let a = c.args in
    said (listed-whole a.slots.now a.l c.if-l.false) (c.put_slots-next.ensures ▸ c.put_last.ensures)
