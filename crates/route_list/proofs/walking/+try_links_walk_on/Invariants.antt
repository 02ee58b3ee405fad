-- The nodes that are not met fall. While links are left: what is listed, and what they still give, is what all of them give.
use Prim.Native.Nat.{◌+◌, ◌*◌, ◌≤◌}
use mathlib.Core.Path.{◌≡◌}
use lib.ListN.{length}
use Rattle.route.specs.All.{unmet}
use Rattle.route_links.specs.Sets.{places_in}
use Rattle.route_links.specs.Private.{met_of, Choosing}
use Rattle.route_list.specs.Private.{Slots, room_in, stow_all, paths_by}
use Rattle.route_list.proofs.walking.+try_links_walk_on.Given as goal

abbrev pub decreases-try_links : goal.decreases-try_links
decreases-try_links l = 2 * unmet 16 (met_of l.gone) + 1

abbrev pub decreases-walk_on : goal.decreases-walk_on
decreases-walk_on l = 2 * unmet 16 (met_of l.gone)

abbrev pub invariant-try_links-loop-left : goal.invariant-try_links-loop-left
invariant-try_links-loop-left l =
    (◌≡◌ {A = Slots} (stow_all (record { bytes = l.out; count = l.p }) (paths_by l.t l.at l.gone l.left l.path l.d)) (stow_all (record { bytes = l.initial.out; count = l.n }) (paths_by l.t l.at l.gone l.links l.path l.d)))
    × Choosing l.t l.at l.gone l.left l.d × (l.p ≤ room_in l.out) × (length l.out ≡ length l.initial.out)

abbrev pub decreases-try_links-loop-left : goal.decreases-try_links-loop-left
decreases-try_links-loop-left l = length (places_in l.left)
