-- The lines of the links before i are laid.
use Rattle.lists.specs.Places.{joined}
use Rattle.chart.specs.Values.{link_at}
use Rattle.text.specs.Private.{Laid}
use Rattle.sheet_lines.specs.Lines.{link_line}
use Rattle.sheet.specs.Sheet.{place, line_at}
use Rattle.sheet.proofs.put_links.Given as goal

abbrev pub invariant-loop-i : goal.invariant-loop-i
invariant-loop-i l = Laid l.initial.out l.at (joined (line_at link_line (link_at l.fn.links)) place l.i) l.out l.next
