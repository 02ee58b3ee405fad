-- `chart_image::put_chart` meets its contract: five stores in a row are one of the joined bytes.
use mathlib.Core.Path.{◌∙◌}
use Rattle.chart_image.proofs.Laws.{chart-stored}
use Rattle.chart_image.proofs.putting.put_chart.Goals as goal

pub returns : goal.returns
returns c =
    c.put_links.ensures
    ∙ rw (c.put_nodes.ensures, c.put_all-3.ensures, c.station_bytes-2.ensures, c.put_all-2.ensures, c.station_bytes.ensures, c.put_all.ensures) (chart-stored c.args.image.now c.args.c)
