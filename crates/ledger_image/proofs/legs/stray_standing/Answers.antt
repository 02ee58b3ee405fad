-- `ledger_image::legs::stray_standing` meets its contract: the tests on the way decide.
use Rattle.ledger_image.proofs.LegLaws.{kind-stray, refusal-known, set-stray, code-tells}
use Rattle.ledger_image.proofs.legs.stray_standing.Goals as goal

pub returns-then-kind-gt-LAST_STANDING : goal.returns-then-kind-gt-LAST_STANDING
returns-then-kind-gt-LAST_STANDING c = kind-stray _ _ _ c.if-kind-gt-LAST_STANDING.true

pub returns-then-kind-eq2 : goal.returns-then-kind-eq2
returns-then-kind-eq2 c = refusal-known _ _ _ c.if-kind-gt-LAST_STANDING.false c.if-kind-eq2.true

pub returns-then-set-ne0 : goal.returns-then-set-ne0
returns-then-set-ne0 c = set-stray _ _ _ c.if-kind-gt-LAST_STANDING.false c.if-kind-eq2.false c.if-set-ne0.true

pub returns : goal.returns
returns c = code-tells _ _ _ c.if-kind-gt-LAST_STANDING.false c.if-kind-eq2.false c.if-set-ne0.false
