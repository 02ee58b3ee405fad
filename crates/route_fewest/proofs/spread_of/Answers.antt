-- `route_fewest::spread_of` meets its contract: each turn takes one node for good, and what is gathered with what the nodes left bring is the whole.
use mathlib.Core.Path.{◌≡◌}
use borrow.Author.Rules.{rules}
use lib.Count.{count_trailing_zeros}
use Rattle.route_ahead.proofs.Looking.{Next, next-node}
use Rattle.route_fewest.proofs.Gathering.{gather-starts, gather-turns, gather-less, gather-ends}
use Rattle.route_fewest.proofs.spread_of.Goals as goal

pub loop-rest-init : goal.loop-rest-init
loop-rest-init c = gather-starts _ _ (search rules)

pub loop-rest-smaller : goal.loop-rest-smaller
loop-rest-smaller c =
    let some_left : c.loop-rest.rest ≡ 0 → ⊥ = c.loop-rest-test.true in
    gather-less _ _ _ _ _ c.loop-rest.invariant some_left

pub loop-rest-preserved : goal.loop-rest-preserved
loop-rest-preserved c =
    let some_left : c.loop-rest.rest ≡ 0 → ⊥ = c.loop-rest-test.true in
    let at_turn : Next c.loop-rest.rest (count_trailing_zeros 16 c.loop-rest.rest) = next-node c.loop-rest.rest c.loop-rest.invariant.small some_left in
    gather-turns _ _ _ _ _ c.loop-rest.invariant _ at_turn

pub returns : goal.returns
returns c = gather-ends _ _ _ _ _ c.loop-rest.invariant c.loop-rest-test.false
