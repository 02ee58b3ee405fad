-- `sheet_lines::put_counts` meets its contract: the line is two words, a number after each.
use borrow.Author.Rules.{rules}
use Rattle.sheet_lines.specs.Lines.{counts_line}
use Rattle.sheet_lines.proofs.numbers.put_counts.Goals as goal

pub returns : goal.returns
unfolding counts_line
returns c = search rules
