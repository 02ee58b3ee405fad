-- The keys of the links before i are there.
use Rattle.chart_refuse.specs.Private.{KeyedLinks}
use Rattle.chart_refuse.specs.Refusal.{links_before}
use Rattle.chart_refuse.proofs.charts.link_keys.Given as goal

abbrev pub invariant-loop-i : goal.invariant-loop-i
invariant-loop-i l = KeyedLinks (links_before l.fn.links l.i) l.akeys l.bkeys
