-- `chart_net::passage_of` meets its contract: the test is the definition's own, and says that the sum fits.
use Rattle.chart_net.specs.Private.{passage_of}
use Rattle.chart_net.proofs.passage_of.Goals as goal

pub returns-then-l-d : goal.returns-then-l-d
unfolding passage_of
returns-then-l-d c = rw c.if-l-d.true

pub returns : goal.returns
unfolding passage_of
returns c = rw c.if-l-d.false
