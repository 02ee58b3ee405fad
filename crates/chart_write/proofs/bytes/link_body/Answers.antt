-- `chart_write::bytes::link_body` meets its contract: two addresses, the on byte and the direction.
use Rattle.lists.proofs.Bools.{bool-byte}
use Rattle.chart_write.specs.Writing.{direction_bytes, link_body}
use Rattle.chart_write.proofs.bytes.link_body.Goals as goal

pub returns : goal.returns
unfolding link_body direction_bytes
returns c = rw (c.address_bytes-a.ensures, c.address_bytes-b.ensures, c.from.ensures, bool-byte)
