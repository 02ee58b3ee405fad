-- `chart_image::put_links` meets its contract: the links that are there, and zeros at the places past them.
use Prim.Native.Nat.{◌+◌, ◌*◌}
use mathlib.Core.Path.{◌≡◌, refl, ap, ◌∙◌}
use native.Mathlib.Omega.{arith}
use lib.ListN.{length, take}
use lib.Seq.{sets}
use borrow.Author.Rules.{rules}
use Rattle.std.proofs.lemmas.List.{length-take-le}
use Rattle.lists.proofs.Places.{joined-none}
use Rattle.lists.proofs.Runs.{joined-put-row}
use Rattle.chart.specs.Values.{most_links, directed, no_link, link_at}
use Rattle.chart.proofs.Laws.{link-taken}
use Rattle.chart_write.specs.Writing.{direction_bytes, link_body}
use Rattle.chart_write.proofs.Laws.{directed-long}
use Rattle.chart_image.specs.Image.{links_start, link_size}
use Rattle.chart_image.proofs.Rows.{joined-stored}
use Rattle.chart_image.proofs.putting.put_links.Goals as goal

pub loop-i-init : goal.loop-i-init
loop-i-init c = rw joined-none refl

pub loop-i-preserved : goal.loop-i-preserved
loop-i-preserved c =
    let links = c.args.links in
    let l = c.loop-i in
    c.put_all.ensures ∙ ap (sets l.image (links_start + link_size * l.i)) c.link_body.ensures
    ∙ joined-put-row (link_body directed) (link_at links) link_size directed-long c.args.image.now _ links_start l.i (link-taken links _ _ l.i c.loop-i-test.true) l.invariant

pub returns : goal.returns
unfolding link_body direction_bytes
returns c =
    let links = c.args.links in
    let l = c.loop-i in
    let n = c.min-n.result in
    let whole : length links.items ≡ 48 = search rules in
    let counted : length (take n links.items) ≡ n = length-take-le n links.items (omega (arith, whole, c.min-n.ensures)) in
    let e : l.i ≡ n = omega (arith, counted) in
    c.put_zeros.ensures
    ∙ rw (l.invariant, e) (joined-stored (link_body directed) link_size directed-long no_link refl c.args.image.now links_start (link_at links) links.count most_links c.min-n.ensures)
