-- `route_fewest::first_link` meets its contract: the other node itself has no first link; else the first round in which one is found has it.
use Prim.Native.Nat.{◌<◌}
use Rattle.route_ahead.proofs.Looking.{goes_on, ended}
use Rattle.route_fewest.proofs.Searching.{search-here, search-starts, search-found, search-on, search-ends}
use Rattle.route_fewest.proofs.first_link.Goals as goal

pub returns-then-from-to : goal.returns-then-from-to
returns-then-from-to c = search-here _ _ _ c.if-from-to.true

pub loop-front-init : goal.loop-front-init
loop-front-init c = search-starts _ _ _ c.requires.to_node c.if-from-to.false

pub returns-then-nearer-ne0 : goal.returns-then-nearer-ne0
returns-then-nearer-ne0 c =
    let left_one : 0 < c.loop-front.left = (goes_on c.loop-front.front c.loop-front.left c.loop-front-test.true).1 in
    let f = c.spread_of-s in
    let ne = c.if-from-to.false in
    search-found _ c.requires.walkable _ _ c.requires.from_node ne _ _ _ c.loop-front.invariant left_one _ f.ensures c.if-nearer-ne0.true

pub loop-front-preserved : goal.loop-front-preserved
loop-front-preserved c =
    let left_one : 0 < c.loop-front.left = (goes_on c.loop-front.front c.loop-front.left c.loop-front-test.true).1 in
    let f = c.spread_of-s in
    let ne = c.if-from-to.false in
    search-on _ c.requires.walkable _ _ c.requires.from_node ne _ _ _ c.loop-front.invariant left_one _ f.ensures c.if-nearer-ne0.false

pub returns : goal.returns
returns c =
    let l = c.loop-front in
    search-ends _ c.requires.walkable _ _ c.requires.from_node c.if-from-to.false _ _ _ l.invariant (ended l.front l.left c.loop-front-test.false)
