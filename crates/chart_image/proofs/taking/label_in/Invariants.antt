-- The bytes before i are in the row.
use mathlib.Core.Path.{◌≡◌}
use Rattle.lists.specs.Places.{row}
use Rattle.chart_read.specs.Fields.{bytes_from}
use Rattle.chart_image.proofs.taking.label_in.Given as goal

abbrev pub invariant-loop-i : goal.invariant-loop-i
invariant-loop-i l = l.x-items ≡ row 24 0 (bytes_from l.fn.b l.fn.at) l.i
