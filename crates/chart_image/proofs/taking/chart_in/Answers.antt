-- `chart_image::chart_in` meets its contract: the counts, the form, the places that count, and the question.
use Rattle.chart_image.specs.Image.{chart_in}
use Rattle.chart_image.proofs.taking.chart_in.Goals as goal

pub returns : goal.returns
unfolding chart_in
returns c = rw (c.nodes_held.ensures, c.links_held.ensures, c.min.ensures, c.min-2.ensures, c.byte_at-n.ensures, c.byte_at-m.ensures, c.byte_at.ensures, c.station_in.ensures, c.station_in-2.ensures)
