-- `route_links::put_in` meets its contract: one word gets the digit, the others stay.
use mathlib.Core.Path.{refl}
use Rattle.route_links.specs.Private.{put_in}
use Rattle.route_links.proofs.put_in.Goals as goal

pub returns : goal.returns
unfolding put_in
returns c = refl
