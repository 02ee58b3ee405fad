-- `class::ended` meets its contract: the code is the definition.
use mathlib.Core.Path.{refl}
use Rattle.class.specs.Class.{ended_with}
use Rattle.class.proofs.ended.Goals as goal

pub returns : goal.returns
unfolding ended_with
returns c = refl
