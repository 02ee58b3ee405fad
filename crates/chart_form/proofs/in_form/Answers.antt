-- `chart_form::in_form` meets its contract: the form alone is set.
use mathlib.Core.Path.{refl}
use Rattle.chart_form.specs.Moving.{in_form}
use Rattle.chart_form.proofs.in_form.Goals as goal

pub returns : goal.returns
unfolding in_form
returns c = refl
