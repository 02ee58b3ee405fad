-- `chart_net::asked_of` meets its contract: the place of each of the question's stations.
use Rattle.chart_net.specs.Private.{asked_of}
use Rattle.chart_net.proofs.asked_of.Goals as goal

pub returns : goal.returns
unfolding asked_of
returns c = λ i. record { from = c.place_by-from.ensures i; to = c.place_by-to.ensures i }
