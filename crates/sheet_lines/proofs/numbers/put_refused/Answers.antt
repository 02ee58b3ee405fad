-- `sheet_lines::put_refused` meets its contract: the line is two words, a number after each.
use borrow.Author.Rules.{rules}
use Rattle.sheet_lines.specs.Lines.{refused_line}
use Rattle.sheet_lines.proofs.numbers.put_refused.Goals as goal

pub returns : goal.returns
unfolding refused_line
returns c = search rules
