-- `class::links::exit_link` meets its contract: the links that the loop sees are those that count.
use Prim.Native.Nat.{ℕ, ◌<◌}
use mathlib.Core.Path.{◌≡◌, sym, ◌∙◌}
use native.Mathlib.Omega.{arith}
use borrow.Author.Rules.{rules}
use lib.ListN.{length, get_or, take, length-take}
use Rattle.std.proofs.lemmas.List.{get_or-take}
use Rattle.lists.proofs.Places.{any_none, any-more}
use Rattle.chart.specs.declared.Link.{Link}
use Rattle.chart.specs.declared.Links.{Links}
use Rattle.chart.specs.Values.{link_at}
use Rattle.chart.proofs.Laws.{link-read}
use Rattle.class.proofs.Leaving.{leaves-read, exit-here, exit-none}
use Rattle.class.proofs.links.exit_link.Goals as goal

-- a link that a turn looks at
own : (ls : Links) (z : Link) (i : ℕ) → length ls.items ≡ 48 → i < length (take ls.count ls.items)
    → (i < ls.count) × (get_or (take ls.count ls.items) i z ≡ link_at ls i)
own ls z i whole h =
    let below : i < ls.count = omega (arith, length-take ls.count ls.items) in
    let within : i < length ls.items = omega (arith, length-take ls.count ls.items) in
    (below, get_or-take ls.count ls.items i z below ∙ link-read ls z i within)

pub loop-i-init : goal.loop-i-init
loop-i-init c = any_none _

pub returns-then-leaves_first-leaves_second : goal.returns-then-leaves_first-leaves_second
returns-then-leaves_first-leaves_second c =
    let a = c.args in
    let l = c.loop-i in
    let w = own a.links _ l.i (search rules) c.loop-i-test.true in
    let read = leaves-read a.links a.s a.p l.i w.1 c.leaves_first.ensures c.leaves_second.ensures in
    exit-here a.links a.s a.p l.i w.0 l.invariant (sym read ∙ c.if-leaves_first-leaves_second.true)

pub loop-i-preserved : goal.loop-i-preserved
loop-i-preserved c =
    let a = c.args in
    let l = c.loop-i in
    let w = own a.links _ l.i (search rules) c.loop-i-test.true in
    let read = leaves-read a.links a.s a.p l.i w.1 c.leaves_first.ensures c.leaves_second.ensures in
    any-more _ l.i l.invariant (sym read ∙ c.if-leaves_first-leaves_second.false)

pub returns : goal.returns
returns c =
    let a = c.args in
    let whole : length a.links.items ≡ 48 = search rules in
    exit-none a.links a.s a.p (omega (arith, whole, length-take a.links.count a.links.items)) c.loop-i.invariant
