-- `chart_form::restore` meets its contract: the form is one of the two.
use mathlib.Core.Path.{refl}
use Rattle.chart_read.specs.Fields.{is_form}
use Rattle.chart_form.proofs.restore.Goals as goal

pub move_to-requires : goal.move_to-requires
unfolding is_form
move_to-requires c = refl
