-- `sheet::put_chart_routes` meets its contract: the arrays of an accepted chart have its routes.
use mathlib.Core.Path.{ap}
use Rattle.text.proofs.Joining.{said}
use Rattle.sheet_routes.specs.RouteLines.{list_text}
use Rattle.sheet.proofs.Laws.{kept-listed}
use Rattle.sheet.proofs.put_chart_routes.Goals as goal

pub returns : goal.returns
returns c =
    let e = kept-listed c.args.c c.requires c.ends_of-ends.ensures c.passages_for-ways.ensures c.asked_of-asked.ensures in
    said (ap (list_text 1000) e) c.put_routes.ensures
