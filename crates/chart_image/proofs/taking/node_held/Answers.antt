-- `chart_image::node_held` meets its contract: a station, a length and the 24 bytes of the label.
use Rattle.chart_image.specs.Image.{node_held}
use Rattle.chart_image.proofs.taking.node_held.Goals as goal

pub returns : goal.returns
unfolding node_held
returns c = rw (c.station_in.ensures, c.byte_at.ensures, c.label_in.ensures)
