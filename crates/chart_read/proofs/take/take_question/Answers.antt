-- `chart_read::take::take_question` meets its contract: where the body's number is 0 the question is counted.
use mathlib.Core.Path.{refl, sym}
use Rattle.refusal.proofs.Passed.{passed, passed-bad}
use Rattle.chart_read.specs.Fields.{is_form}
use Rattle.chart_read.specs.Reading.{body_refusal}
use Rattle.chart_read.specs.Private.{refusing_by, with_asked, keys_with}
use Rattle.chart_read.proofs.Taking.{takes_none, takes_one}
use Rattle.chart_read.proofs.take.take_question.Goals as goal

pub returns-in_err-question_body_refusal : goal.returns-in_err-question_body_refusal
unfolding is_form body_refusal refusing_by
returns-in_err-question_body_refusal c =
    let h = c.from_residual.ensures.1 in
    takes_none c.args.keys.now 3 c.args.b.now _ (passed _ _ h c.in_err-question_body_refusal.ensures) (passed-bad _ _ h)

pub returns : goal.returns
unfolding is_form body_refusal refusing_by keys_with with_asked
returns c = takes_one c.args.keys.now 3 c.args.b.now (sym c.in_ok-question_body_refusal.ensures) _ refl
