-- The links before i are stored.
use mathlib.Core.Path.{◌≡◌}
use lib.Seq.{sets}
use Rattle.lists.specs.Places.{joined}
use Rattle.chart.specs.Values.{link_at}
use Rattle.chart_write.specs.Writing.{link_field}
use Rattle.chart_write.proofs.storing.put_links.Given as goal

abbrev pub invariant-loop-i : goal.invariant-loop-i
invariant-loop-i l = l.out ≡ sets l.initial.out l.fn.at (joined (link_field l.fn.links.form) (link_at l.fn.links) l.i)
