-- `chart_write::bytes::question_body` meets its contract: two stations.
use Rattle.chart_write.specs.Writing.{question_body}
use Rattle.chart_write.proofs.bytes.question_body.Goals as goal

pub returns : goal.returns
unfolding question_body
returns c = rw (c.station_bytes-f.ensures, c.station_bytes-t.ensures)
