-- The links before i are in the row.
use mathlib.Core.Path.{◌≡◌}
use Rattle.lists.specs.Places.{row}
use Rattle.chart.specs.Values.{no_link}
use Rattle.chart_image.specs.Image.{link_held}
use Rattle.chart_image.proofs.taking.links_held.Given as goal

abbrev pub invariant-loop-i : goal.invariant-loop-i
invariant-loop-i l = l.items ≡ row 48 no_link (link_held l.fn.b) l.i
