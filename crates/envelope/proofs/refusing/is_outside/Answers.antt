-- `envelope::refusing::is_outside` meets its contract: the code is the definition.
use mathlib.Core.Path.{refl}
use Rattle.envelope.specs.Refusal.{outside}
use Rattle.envelope.proofs.refusing.is_outside.Goals as goal

pub returns : goal.returns
unfolding outside
returns c = refl
