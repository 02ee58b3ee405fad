-- `table_image::image_in_range` meets its contract: the length, the count, the own node and the entries, in turn.
use mathlib.Core.Path.{◌∙◌}
use borrow.Author.Rules.{rules}
use Rattle.table_image.proofs.InImage.{short-out, many-out, node-out, entries-tell}
use Rattle.table_image.proofs.image_in_range.Goals as goal

pub returns-then-b-lt-TABLE_SIZE : goal.returns-then-b-lt-TABLE_SIZE
returns-then-b-lt-TABLE_SIZE c = short-out _ c.if-b-lt-TABLE_SIZE.true

pub returns-then-n-gt-MOST_ENTRIES : goal.returns-then-n-gt-MOST_ENTRIES
returns-then-n-gt-MOST_ENTRIES c = many-out _ c.if-n-gt-MOST_ENTRIES.true

pub returns-then-word_at-gt-LARGEST_NODE : goal.returns-then-word_at-gt-LARGEST_NODE
returns-then-word_at-gt-LARGEST_NODE c = node-out _ (rw c.word_at.ensures at c.if-word_at-gt-LARGEST_NODE.true)

pub returns : goal.returns
returns c = let b = c.args.b.now in c.all_in_range.ensures ∙ entries-tell b c.if-b-lt-TABLE_SIZE.false c.if-n-gt-MOST_ENTRIES.false (rw c.word_at.ensures at c.if-word_at-gt-LARGEST_NODE.false) (search rules)
