-- After turn i the table holds those of the first i links that lead from a node to another.
use Rattle.route_links.specs.Arrays.{net}
use Rattle.route_links.specs.Private.{Built, Usable}
use Rattle.route_links.proofs.links_by_node.Given as goal

abbrev pub invariant-loop-i : goal.invariant-loop-i
invariant-loop-i l = Built (Usable (net l.ends l.ways l.links l.to) l.i) l.t
