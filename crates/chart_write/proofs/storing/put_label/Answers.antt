-- `chart_write::storing::put_label` meets its contract: the label's first n bytes are stored.
use mathlib.Core.Path.{◌≡◌, ap, ◌∙◌}
use lib.ListN.{length}
use lib.Seq.{sets}
use Rattle.lists.proofs.Runs.{firsts-take}
use native.Mathlib.Omega.{arith}
use Rattle.chart_write.proofs.storing.put_label.Goals as goal

pub returns : goal.returns
returns c =
    let whole : length c.args.label ≡ 24 = c.well_formed.1.1.0.1.0.1 in
    c.put_all.ensures ∙ ap (sets c.args.out.now c.args.at) (firsts-take 0 c.args.label c.args.n (omega (arith, whole)))
