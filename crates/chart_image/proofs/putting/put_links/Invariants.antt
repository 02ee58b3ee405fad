-- The links before i are stored.
use mathlib.Core.Path.{◌≡◌}
use lib.Seq.{sets}
use Rattle.lists.specs.Places.{joined}
use Rattle.chart.specs.Values.{directed, link_at}
use Rattle.chart_write.specs.Writing.{link_body}
use Rattle.chart_image.specs.Image.{links_start}
use Rattle.chart_image.proofs.putting.put_links.Given as goal

abbrev pub invariant-loop-i : goal.invariant-loop-i
invariant-loop-i l = l.image ≡ sets l.initial.image links_start (joined (link_body directed) (link_at l.fn.links) l.i)
