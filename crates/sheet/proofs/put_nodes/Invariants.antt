-- The lines of the nodes before i are laid.
use Rattle.lists.specs.Places.{joined}
use Rattle.chart.specs.Values.{node_at}
use Rattle.text.specs.Private.{Laid}
use Rattle.sheet_lines.specs.Lines.{node_line}
use Rattle.sheet.specs.Sheet.{place, line_at}
use Rattle.sheet.proofs.put_nodes.Given as goal

abbrev pub invariant-loop-i : goal.invariant-loop-i
invariant-loop-i l = Laid l.initial.out l.at (joined (line_at node_line (node_at l.fn.nodes)) place l.i) l.out l.next
