-- The nodes that are not met fall.
use Prim.Native.Nat.{◌+◌, ◌*◌}
use Rattle.route.specs.All.{unmet}
use Rattle.route_links.specs.Private.{met_of}
use Rattle.route_search.proofs.walking.+try_links_walk_on.Given as goal

abbrev pub decreases-try_links : goal.decreases-try_links
decreases-try_links l = 2 * unmet 16 (met_of l.gone) + 1

abbrev pub decreases-walk_on : goal.decreases-walk_on
decreases-walk_on l = 2 * unmet 16 (met_of l.gone)
