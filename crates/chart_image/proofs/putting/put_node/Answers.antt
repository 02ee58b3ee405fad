-- `chart_image::put_node` meets its contract: three stores in a row are one of the joined bytes.
use mathlib.Core.Path.{◌≡◌, ◌∙◌}
use lib.ListN.{length}
use Rattle.chart_image.proofs.Laws.{node-stored}
use borrow.Author.Rules.{rules}
use Rattle.chart_image.proofs.putting.put_node.Goals as goal

pub returns : goal.returns
returns c =
    let h : length c.args.n.label ≡ 24 = search rules in
    c.put_all-3.ensures ∙ rw (c.put_all-2.ensures, c.put_all.ensures, c.station_bytes.ensures) (node-stored c.args.image.now c.args.at c.args.n h)
