-- `chart_write::storing::put_links` meets its contract: each link that the loop sees is stored at its own offset.
use mathlib.Core.Path.{refl, ◌∙◌}
use Rattle.lists.proofs.Places.{joined-none}
use Rattle.lists.proofs.Runs.{joined-put-row}
use Rattle.chart.specs.Values.{link_at}
use Rattle.chart.proofs.Laws.{link-taken}
use Rattle.chart_write.specs.Writing.{link_field, link_field_size}
use Rattle.chart_write.proofs.Laws.{length-link}
use Rattle.chart_write.proofs.storing.put_links.Goals as goal

pub loop-i-init : goal.loop-i-init
loop-i-init c = let a = c.args in rw (joined-none (link_field a.links.form) (link_at a.links)) refl

pub loop-i-preserved : goal.loop-i-preserved
loop-i-preserved c =
    let links = c.args.links in
    let l = c.loop-i in
    (rw c.link_field_size-size.ensures.0 at c.put_link.ensures)
    ∙ joined-put-row (link_field links.form) (link_at links) (link_field_size links.form) (length-link links.form) c.args.out.now _ c.args.at l.i (link-taken links _ links.count l.i c.loop-i-test.true) l.invariant
