-- `table_write::table_over` meets its contract: a turn fills in the entry of a node to which a link leads.
use mathlib.Core.Path.{◌≡◌, ap₂, ◌∙◌}
use native.Mathlib.Omega.{arith}
use lib.ListN.{length, get_or}
use Rattle.chart.specs.declared.ChartNode.{ChartNode}
use Rattle.chart.specs.declared.Link.{Link}
use Rattle.chart.proofs.Laws.{node-read, link-read}
use Rattle.table_write.specs.Writing.{entry_over}
use Rattle.table_write.proofs.Filling.{first_read, link-some, link-none, filled-few, filled_none, filled-skip, filled_more, table-made}
use borrow.Author.Rules.{rules}
use Rattle.table_write.proofs.table_over.Goals as goal
use Rattle.table_write.proofs.table_over.Goals.{then-i-lt-MOST_LINKS, else-i-lt-MOST_LINKS}

pub loop-b-init : goal.loop-b-init
loop-b-init c =
    let a = c.args in
    filled_none a.first a.c.nodes a.c.links a.s c.no_entry-entries.ensures

pub offset_bounds-entries-count : goal.offset_bounds-entries-count
offset_bounds-entries-count c =
    let a = c.args in
    omega (arith, filled-few a.first a.c.nodes a.c.links a.s c.loop-b.b c.loop-b.invariant)

pub bounds-entries-count : goal.bounds-entries-count
bounds-entries-count c =
    let a = c.args in
    omega (arith, filled-few a.first a.c.nodes a.c.links a.s c.loop-b.b c.loop-b.invariant)

pub overflow_add-count : goal.overflow_add-count
overflow_add-count c =
    let a = c.args in
    omega (arith, filled-few a.first a.c.nodes a.c.links a.s c.loop-b.b c.loop-b.invariant)

pub loop-b-preserved : goal.loop-b-preserved
loop-b-preserved c =
    let whole-first : length c.args.first ≡ 16 = search rules in
    let whole-nodes : length c.args.c.nodes.items ≡ 16 = search rules in
    let whole-links : length c.args.c.links.items ≡ 48 = search rules in
    let a = c.args in
    let l = c.loop-b in
    let i = get_or a.first l.b 0 in
    let told : get_or a.first l.b 48 ≡ i = first_read a.first l.b (omega (arith, whole-first)) in
    elim c.if-i-lt-MOST_LINKS.branch [
      | then-i-lt-MOST_LINKS w ↦
          let e = ap₂ (λ (k : Link) (n : ChartNode). entry_over k a.s n.station) (link-read a.c.links _ i (omega (arith, whole-links, w.if-i-lt-MOST_LINKS.true))) (node-read a.c.nodes _ l.b (omega (arith, whole-nodes))) in
          rw (w.entries-is, w.count-is) (filled_more a.first a.c.nodes a.c.links a.s l.b l.invariant i (omega arith) (link-some a.first l.b i told w.if-i-lt-MOST_LINKS.true) (w.entry_over.ensures ∙ e))
      | else-i-lt-MOST_LINKS w ↦ rw (w.entries-is, w.count-is) (filled-skip a.first a.c.nodes a.c.links a.s l.b l.invariant (link-none a.first l.b i told w.if-i-lt-MOST_LINKS.false))
    ]

pub overflow_cast-result : goal.overflow_cast-result
overflow_cast-result c =
    let a = c.args in
    omega (arith, filled-few a.first a.c.nodes a.c.links a.s c.loop-b.b c.loop-b.invariant)

pub returns : goal.returns
returns c =
    let a = c.args in
    let l = c.loop-b in
    let e : l.b ≡ a.c.nodes.count = omega arith in
    table-made a.first a.c a.s l.b e l.invariant
