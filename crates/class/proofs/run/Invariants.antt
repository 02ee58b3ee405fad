-- The nodes so far are the first of the way, and the steps that are left come to the others.
use Rattle.class.specs.Calls.{tables_in}
use Rattle.class.proofs.Passing.{Halfway}
use Rattle.class.proofs.run.Given as goal

abbrev pub invariant-loop-m : goal.invariant-loop-m
invariant-loop-m l =
    Halfway l.c (tables_in l.tables) l.d l.at l.m l.way l.count l.left

abbrev pub decreases-loop-m : goal.decreases-loop-m
decreases-loop-m l = l.left
