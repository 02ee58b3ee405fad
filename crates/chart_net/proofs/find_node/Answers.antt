-- `chart_net::find_node` meets its contract: a key is that of the node at its place.
use mathlib.Core.Path.{sym}
use native.Mathlib.Omega.{arith}
use borrow.Author.Tests.{eq-eqb, ne_eqb}
use Rattle.lists.proofs.Places.{any_none, any-more, any-end}
use Rattle.chart_refuse.specs.Private.{key_is}
use Rattle.chart_net.proofs.Places.{key_here, key-none}
use Rattle.chart_net.proofs.find_node.Goals as goal

pub loop-i-init : goal.loop-i-init
loop-i-init c = any_none _

pub returns-then-keys-i : goal.returns-then-keys-i
unfolding key_is
returns-then-keys-i c =
    let l = c.loop-i in
    let k = c.station_key-k in
    key_here c.args.nodes c.args.s c.args.keys.now c.requires.0 c.requires.1 k.result k.ensures l.i (omega arith) l.invariant (eq-eqb _ _ c.if-keys-i.true)

pub loop-i-preserved : goal.loop-i-preserved
unfolding key_is
loop-i-preserved c = any-more _ c.loop-i.i c.loop-i.invariant (ne_eqb _ _ c.if-keys-i.false)

pub returns : goal.returns
returns c =
    let k = c.station_key-k in
    key-none c.args.nodes c.args.s c.args.keys.now c.requires.0 c.requires.1 k.result k.ensures (sym (any-end _ (omega arith) c.loop-i.invariant))
