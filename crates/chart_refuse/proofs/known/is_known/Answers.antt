-- `chart_refuse::known::is_known` meets its contract: the key of the station, among the first n.
use mathlib.Core.Path.{◌≡◌, ◌∙◌}
use native.Mathlib.Omega.{arith}
use lib.ListN.{length}
use borrow.Author.Rules.{rules}
use Rattle.chart_refuse.proofs.ByKeys.{holds-key, known_by}
use Rattle.chart_refuse.proofs.known.is_known.Goals as goal

pub returns : goal.returns
returns c =
    let a = c.args in
    let whole : length a.keys.now ≡ 16 = search rules in
    c.holds.ensures ∙ holds-key a.keys.now a.n _ (omega (arith, whole)) ∙ known_by _ _ _ c.station_key.ensures
