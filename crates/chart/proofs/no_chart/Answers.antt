-- `chart::no_chart` meets its contract: every number is 0.
use Rattle.chart.specs.Values.{no_chart}
use Rattle.chart.proofs.no_chart.Goals as goal

pub returns : goal.returns
unfolding no_chart
returns c = rw (c.no_node.ensures, c.no_link.ensures)
