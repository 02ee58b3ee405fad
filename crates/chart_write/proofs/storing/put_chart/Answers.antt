-- `chart_write::storing::put_chart` meets its contract: nodes, links and question, each after the last.
use Prim.Native.Nat.{◌+◌, ◌*◌, ◌≤◌}
use native.Mathlib.Omega.{arith}
use lib.ListN.{length}
use Rattle.chart_refuse.proofs.Laws.{passed}
use Rattle.chart_write.proofs.Laws.{length-chart, chart-end, short, chart-put}
use Rattle.chart_write.specs.Writing.{question_field_size}
use borrow.Author.Rules.{rules}
use Rattle.chart_write.proofs.storing.put_chart.Goals as goal

pub put_nodes-at-requires : goal.put_nodes-at-requires
put_nodes-at-requires c = (short c.args.c c.requires.0, omega (arith, c.requires.1, length-chart c.args.c))

pub put_links-requires : goal.put_links-requires
put_links-requires c = ((passed c.args.c c.requires.0).few_links, omega (arith, c.requires.1, length-chart c.args.c, c.put_nodes-at.ensures.0, c.put_nodes-at.auto.out))

pub overflow_add-next : goal.overflow_add-next
overflow_add-next c =
    let ends : c.put_nodes-at.result + c.link_field_size.result * c.args.c.links.count + question_field_size ≤ length c.args.out.now = omega (arith, chart-end c.args.c c.put_nodes-at.ensures.0 c.link_field_size.ensures.0, c.requires.1) in
    omega (arith, ends)

pub put_field-requires : goal.put_field-requires
put_field-requires c =
    let ends : c.put_nodes-at.result + c.link_field_size.result * c.args.c.links.count + question_field_size ≤ length c.args.out.now = omega (arith, chart-end c.args.c c.put_nodes-at.ensures.0 c.link_field_size.ensures.0, c.requires.1) in
    (omega (arith, ends, c.put_nodes-at.auto.out, c.put_links.auto.out), search rules)

pub returns : goal.returns
returns c =
    let a = c.args in
    let n = c.put_nodes-at in
    let f = c.link_field_size in
    chart-put a.c a.out.now _ _ _ _ n.result f.result n.ensures.0 n.ensures.1 c.put_links.ensures f.ensures.0 c.question_body.ensures c.put_field.ensures
