-- `chart_read::numbers::link_length` meets its contract: the form decides.
use borrow.Author.Tests.{eq-eqb, ne_eqb}
use Rattle.chart_read.specs.Fields.{link_length}
use Rattle.chart_read.proofs.numbers.link_length.Goals as goal

pub returns-then-form-eq-DIRECTED : goal.returns-then-form-eq-DIRECTED
unfolding link_length
returns-then-form-eq-DIRECTED c = rw (eq-eqb _ _ c.if-form-eq-DIRECTED.true)

pub returns : goal.returns
unfolding link_length
returns c = rw (ne_eqb _ _ c.if-form-eq-DIRECTED.false)
