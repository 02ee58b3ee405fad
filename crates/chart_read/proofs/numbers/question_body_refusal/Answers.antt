-- `chart_read::numbers::question_body_refusal` meets its contract: the length decides, then the question's own number.
use mathlib.Core.Path.{ap, ap₂, ◌∙◌}
use mathlib.Core.Bool.{not}
use borrow.Author.Tests.{eq-eqb, ne_eqb}
use Rattle.lists.proofs.Chains.{stops, passes}
use Rattle.chart_refuse.specs.Private.{question_refusal_by_keys}
use Rattle.chart_read.specs.Reading.{question_body_refusal}
use Rattle.chart_read.proofs.numbers.question_body_refusal.Goals as goal

pub returns-then-b-ne-QUESTION_LENGTH : goal.returns-then-b-ne-QUESTION_LENGTH
unfolding question_body_refusal
returns-then-b-ne-QUESTION_LENGTH c = stops 23 _ (ap not (ne_eqb _ _ c.if-b-ne-QUESTION_LENGTH.true))

pub returns : goal.returns
unfolding question_body_refusal
returns c =
    passes 23 (ap not (eq-eqb _ _ c.if-b-ne-QUESTION_LENGTH.false))
    (c.question_refusal.ensures ∙ ap₂ (question_refusal_by_keys c.args.asked c.args.keys.now c.args.n) c.station_in-from.ensures c.station_in-to.ensures)
