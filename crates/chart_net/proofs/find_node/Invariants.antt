-- No node before i has the key.
use mathlib.Core.Path.{◌≡◌}
use mathlib.Core.Bool.{false}
use Rattle.lists.specs.Places.{any_below}
use Rattle.chart_refuse.specs.Private.{key_is}
use Rattle.chart_net.proofs.find_node.Given as goal

abbrev pub invariant-loop-i : goal.invariant-loop-i
invariant-loop-i l = any_below (key_is l.fn.keys l.k) l.i ≡ false
