-- `sheet_routes::put_route` meets its contract: a dash for the empty route, else the first place, the others and a line feed.
use borrow.Author.Tests.{eqb-true, eqb-false}
use Rattle.lists.proofs.Bools.{told-true, told-false}
use Rattle.text.proofs.Joining.{said, ◌▸◌}
use Rattle.sheet_routes.proofs.Routes.{route-none, route-some}
use Rattle.sheet_routes.proofs.put_route.Goals as goal

pub returns-then-is_empty : goal.returns-then-is_empty
returns-then-is_empty c = said (route-none c.args.r.now (eqb-true _ _ (told-true c.is_empty.ensures c.if-is_empty.true))) c.put_bytes.ensures

pub returns : goal.returns
returns c =
    said (route-some c.args.r.now (eqb-false _ _ (told-false c.is_empty.ensures c.if-is_empty.false)))
    (c.put_number-n1.ensures ▸ c.put_places-n2.ensures ▸ c.put_byte.ensures)
