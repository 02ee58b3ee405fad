-- `sheet::put_nodes` meets its contract: a line more is laid in each turn.
use Prim.Native.Nat.{◌<◌}
use mathlib.Core.Path.{◌≡◌, sym, ap, ◌∙◌}
use native.Mathlib.Omega.{arith}
use borrow.Author.Rules.{rules}
use lib.ListN.{length, length-take}
use Rattle.std.proofs.lemmas.List.{get_or-take}
use Rattle.lists.specs.Places.{joined}
use Rattle.lists.proofs.Places.{joined-none}
use Rattle.chart.specs.Values.{node_at}
use Rattle.chart.proofs.Laws.{node-read}
use Rattle.text.proofs.Joining.{nothing, said}
use Rattle.sheet_lines.specs.Lines.{node_line}
use Rattle.sheet.specs.Sheet.{place, line_at}
use Rattle.sheet.proofs.Laws.{line-more}
use Rattle.sheet.proofs.put_nodes.Goals as goal

pub loop-i-init : goal.loop-i-init
loop-i-init c = said (sym (joined-none (line_at node_line (node_at c.args.nodes)) place)) (nothing (omega arith) (omega arith))

pub loop-i-preserved : goal.loop-i-preserved
loop-i-preserved c =
    let a = c.args.nodes in
    let whole : length a.items ≡ 16 = search rules in
    let l = c.loop-i in
    let below : l.i < a.count = omega (arith, length-take a.count a.items) in
    line-more node_line (node_at a) l.i (get_or-take a.count a.items l.i _ below ∙ node-read a _ l.i (omega (arith, whole, c.requires))) l.invariant c.put_node-next.ensures

pub returns : goal.returns
returns c =
    let a = c.args.nodes in
    let whole : length a.items ≡ 16 = search rules in
    let all : c.loop-i.i ≡ a.count = omega (arith, whole, length-take a.count a.items) in
    said (ap (joined (line_at node_line (node_at a)) place) all) c.loop-i.invariant
