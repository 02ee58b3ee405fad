-- `chart_image::link_held` meets its contract: the on byte decides, else two addresses, it and the direction.
use borrow.Author.Tests.{lt-ltb, le-ltb}
use mathlib.Core.Path.{◌∙◌}
use Rattle.chart_image.specs.Image.{link_held}
use Rattle.chart_image.proofs.taking.link_held.Goals as goal

pub returns-then-on-gt1 : goal.returns-then-on-gt1
unfolding link_held
returns-then-on-gt1 c = c.no_link.ensures ∙ rw (lt-ltb 1 _ (rw c.byte_at-on.ensures at c.if-on-gt1.true))

pub returns : goal.returns
unfolding link_held
returns c = rw (le-ltb 1 _ (rw c.byte_at-on.ensures at c.if-on-gt1.false), c.byte_at-on.ensures, c.address_in.ensures, c.address_in-2.ensures, c.byte_at.ensures)
