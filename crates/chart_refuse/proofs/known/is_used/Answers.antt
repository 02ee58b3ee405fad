-- `chart_refuse::known::is_used` meets its contract: the key of the end, among the first m of either row.
use mathlib.Core.Path.{◌≡◌, ap₂, ◌∙◌}
use mathlib.Core.Bool.{◌||◌}
use native.Mathlib.Omega.{arith}
use lib.ListN.{length}
use borrow.Author.Rules.{rules}
use Rattle.chart_refuse.proofs.ByKeys.{holds-key, used-by}
use Rattle.chart_refuse.proofs.known.is_used.Goals as goal

pub returns : goal.returns
returns c =
    let a = c.args in
    let whole-a : length a.akeys.now ≡ 48 = search rules in
    let whole-b : length a.bkeys.now ≡ 48 = search rules in
    ap₂ ◌||◌ (c.holds.ensures ∙ holds-key a.akeys.now a.m _ (omega (arith, whole-a))) (c.holds-2.ensures ∙ holds-key a.bkeys.now a.m _ (omega (arith, whole-b)))
    ∙ used-by a.akeys.now a.bkeys.now a.m a.e c.end_key-k.ensures
