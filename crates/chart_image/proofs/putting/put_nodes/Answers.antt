-- `chart_image::put_nodes` meets its contract: the nodes that are there, and zeros at the places past them.
use mathlib.Core.Path.{◌≡◌, refl, ◌∙◌}
use native.Mathlib.Omega.{arith}
use lib.ListN.{length, take}
use borrow.Author.Rules.{rules}
use Rattle.std.proofs.lemmas.List.{length-take-le}
use Rattle.lists.specs.Places.{firsts, element_at}
use Rattle.lists.proofs.Places.{joined-none}
use Rattle.lists.proofs.Runs.{joined-put-row}
use Rattle.chart.specs.Values.{most_nodes, no_node, node_at}
use Rattle.chart.proofs.Laws.{node-taken}
use Rattle.chart_image.specs.Image.{nodes_start, node_size, node_image}
use Rattle.chart_image.proofs.Laws.{length-node}
use Rattle.chart_image.proofs.Rows.{joined-stored}
use Rattle.chart_image.proofs.putting.put_nodes.Goals as goal

pub loop-i-init : goal.loop-i-init
loop-i-init c = rw joined-none refl

pub loop-i-preserved : goal.loop-i-preserved
loop-i-preserved c =
    let nodes = c.args.nodes in
    let l = c.loop-i in
    c.put_node.ensures ∙ joined-put-row node_image (node_at nodes) node_size length-node c.args.image.now _ nodes_start l.i (node-taken nodes _ _ l.i c.loop-i-test.true) l.invariant

pub returns : goal.returns
unfolding node_image firsts element_at
returns c =
    let nodes = c.args.nodes in
    let l = c.loop-i in
    let n = c.min-n.result in
    let whole : length nodes.items ≡ 16 = search rules in
    let counted : length (take n nodes.items) ≡ n = length-take-le n nodes.items (omega (arith, whole, c.min-n.ensures)) in
    let e : l.i ≡ n = omega (arith, counted) in
    c.put_zeros.ensures
    ∙ rw (l.invariant, e) (joined-stored node_image node_size length-node no_node refl c.args.image.now nodes_start (node_at nodes) nodes.count most_nodes c.min-n.ensures)
