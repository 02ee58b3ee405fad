-- `route_links::is_out` meets its contract: its tests are the definition's.
use mathlib.Core.Path.{refl}
use Rattle.route_links.specs.Arrays.{is_out}
use Rattle.route_links.proofs.is_out.Goals as goal

pub returns : goal.returns
unfolding is_out
returns c = refl
