-- `route_links::is_back` meets its contract: its tests are the definition's.
use mathlib.Core.Path.{refl}
use Rattle.route_links.specs.Arrays.{is_back}
use Rattle.route_links.proofs.is_back.Goals as goal

pub returns : goal.returns
unfolding is_back
returns c = refl
