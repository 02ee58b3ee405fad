-- `sheet::put_links` meets its contract: a line more is laid in each turn.
use Prim.Native.Nat.{◌<◌}
use mathlib.Core.Path.{◌≡◌, sym, ap, ◌∙◌}
use native.Mathlib.Omega.{arith}
use borrow.Author.Rules.{rules}
use lib.ListN.{length, length-take}
use Rattle.std.proofs.lemmas.List.{get_or-take}
use Rattle.lists.specs.Places.{joined}
use Rattle.lists.proofs.Places.{joined-none}
use Rattle.chart.specs.Values.{link_at}
use Rattle.chart.proofs.Laws.{link-read}
use Rattle.text.proofs.Joining.{nothing, said}
use Rattle.sheet_lines.specs.Lines.{link_line}
use Rattle.sheet.specs.Sheet.{place, line_at}
use Rattle.sheet.proofs.Laws.{line-more}
use Rattle.sheet.proofs.put_links.Goals as goal

pub loop-i-init : goal.loop-i-init
loop-i-init c = said (sym (joined-none (line_at link_line (link_at c.args.links)) place)) (nothing (omega arith) (omega arith))

pub loop-i-preserved : goal.loop-i-preserved
loop-i-preserved c =
    let a = c.args.links in
    let whole : length a.items ≡ 48 = search rules in
    let l = c.loop-i in
    let below : l.i < a.count = omega (arith, length-take a.count a.items) in
    line-more link_line (link_at a) l.i (get_or-take a.count a.items l.i _ below ∙ link-read a _ l.i (omega (arith, whole, c.requires))) l.invariant c.put_link-next.ensures

pub returns : goal.returns
returns c =
    let a = c.args.links in
    let whole : length a.items ≡ 48 = search rules in
    let all : c.loop-i.i ≡ a.count = omega (arith, whole, length-take a.count a.items) in
    said (ap (joined (line_at link_line (link_at a)) place) all) c.loop-i.invariant
